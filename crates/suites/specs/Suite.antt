-- A suite is four octets, a selector and a type. It counts only if its first three octets are 00 0F AC; any other is in no table.
use Rattle.std.specs.Prelude.{ℕ, ◌+◌, List, [], ◌∷◌, ◌++◌, ◌&&◌, eqb, get_or, if◌then◌else◌}
use Rattle.suites.specs.declared.Suite.{Suite}
use Rattle.suites.specs.declared.Suite.TheVariants.{Ours, Other}

abbrev pub selector : List ℕ
selector = 0x00 ∷ 0x0f ∷ 0xac ∷ []

-- the suite in the four octets of s from a place on
unfoldable pub suite_at : List ℕ → ℕ → Suite
suite_at s at =
    if eqb (get_or s at 0) (get_or selector 0 0)
    && eqb (get_or s (at + 1) 0) (get_or selector 1 0)
    && eqb (get_or s (at + 2) 0) (get_or selector 2 0)
    then Ours (get_or s (at + 3) 0)
    else Other

-- the octets of a suite that counts
unfoldable pub suite_octets : ℕ → List ℕ
suite_octets kind = selector ++ (kind ∷ [])
