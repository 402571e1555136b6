-- Worked examples. The real octets are of a first frame that hostap's station wrote.
use mathlib.Core.Path.{◌≡◌, refl}
use mathlib.Core.List.{List, [], ◌∷◌, ◌++◌}
use Prim.Native.Nat.{ℕ, ◌*◌}
use lib.ListN.{replicate}
use Rattle.octets.specs.Numbers.{le, octets}
use Rattle.suites.specs.declared.Suite.TheVariants.{Ours, Other}
use Rattle.suites.specs.Suite.{suite_at, suite_octets}
use Rattle.std.specs.Prelude.{Option, None, Some}
use Rattle.suites.specs.declared.Suite.{Suite}
use Rattle.rsne.specs.declared.Rsne.{Rsne}
use Rattle.rsne.specs.Rsne.{rsne_of, rsne_octets}

abbrev real_rsne : List ℕ
real_rsne =
    (0x01 ∷ 0x00 ∷ 0x00 ∷ 0x0f ∷ 0xac ∷ 0x07 ∷ 0x01 ∷ 0x00 ∷ 0x00 ∷ 0x0f ∷ 0xac ∷ 0x04 ∷ 0x01 ∷ 0x00 ∷ 0x00 ∷ 0x0f ∷ 0xac ∷ 0x08 ∷ [])
    ++ (0xc0 ∷ 0x00 ∷ 0x01 ∷ 0x00 ∷ [])
    ++ replicate 16 0xa8
    ++ (0x00 ∷ 0x0f ∷ 0xac ∷ 0x07 ∷ [])

abbrev ours : ℕ → List ℕ
ours kind = 0x00 ∷ 0x0f ∷ 0xac ∷ kind ∷ []

-- a version, a list of pairwise suites with its count, one AKM, and p PMKIDs
abbrev content : ℕ → List ℕ → ℕ → List ℕ
content version pairwise p =
    (version ∷ 0 ∷ []) ++ ours 7 ++ pairwise ++ (1 ∷ 0 ∷ []) ++ ours 8 ++ (0xc0 ∷ 0 ∷ p ∷ 0 ∷ []) ++ replicate (16 * p) 0xaa ++ ours 7

abbrev one : List ℕ
one = (1 ∷ 0 ∷ []) ++ ours 4

abbrev read : Option Suite → ℕ → ℕ → Option Rsne
read pairwise start end =
    Some (record {
      group = Ours 7;
      pairwise = pairwise;
      akm = Some (Ours 8);
      capabilities = 0xc0;
      pmkids = record { start = start; end = end };
      management = Ours 7;
    })

pub real_rsne_read : rsne_of real_rsne ≡ read (Some (Ours 4)) 22 38
unfolding rsne_of le suite_at
real_rsne_read = refl

pub real_rsne_written : rsne_octets 4 8 (replicate 16 0xa8) ≡ 0x30 ∷ 0x2a ∷ real_rsne
unfolding rsne_octets octets suite_octets
real_rsne_written = refl

pub version_2 : rsne_of (content 2 one 0) ≡ None
unfolding rsne_of le
version_2 = refl

pub pairwise_65535 : rsne_of (content 1 ((0xff ∷ 0xff ∷ []) ++ ours 4) 0) ≡ None
unfolding rsne_of le
pairwise_65535 = refl

pub two_pairwise : rsne_of (content 1 ((2 ∷ 0 ∷ []) ++ ours 4 ++ ours 9) 1) ≡ read None 26 42
unfolding rsne_of le suite_at
two_pairwise = refl

pub other_selector : rsne_of (content 1 (1 ∷ 0 ∷ 0x00 ∷ 0x50 ∷ 0xf2 ∷ 4 ∷ []) 0) ≡ read (Some Other) 22 22
unfolding rsne_of le suite_at
other_selector = refl
