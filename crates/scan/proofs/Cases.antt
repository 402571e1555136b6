-- A worked example.
use mathlib.Core.Path.{◌≡◌, refl}
use mathlib.Core.List.{List, [], ◌∷◌, ◌++◌}
use Prim.Native.Nat.{ℕ}
use Rattle.std.specs.Prelude.{Ok}
use Rattle.scan.specs.declared.Times.TheVariants.{Never, One, More}
use Rattle.scan.specs.Scan.{scan_of}

abbrev header : List ℕ
header = 7 ∷ 0 ∷ 3 ∷ 0 ∷ 0 ∷ 0 ∷ []

-- two MICs, an element that is skipped, Wrapped Data, and ID 48 as an extension ID
pub several : scan_of (header ++ (140 ∷ 1 ∷ 7 ∷ 1 ∷ 0 ∷ 140 ∷ 0 ∷ 255 ∷ 2 ∷ 8 ∷ 9 ∷ 255 ∷ 1 ∷ 48 ∷ []))
    ≡ Ok (record {
      rsne = Never;
      timeout = Never;
      mic = More (record { start = 8; end = 9 });
      fragment = Never;
      parameters = Never;
      wrapped = One (record { start = 15; end = 17 });
    })
unfolding scan_of
several = refl
