-- Timeout Interval. Length 5: type (2 = key lifetime, nothing else taken), then 4 octets of seconds, not 0.
use Rattle.std.specs.Prelude.{ℕ, not, ◌&&◌, Option, None, Some, List, [], ◌∷◌, ◌++◌, eqb, length, get_or, if◌then◌else◌}
use Rattle.octets.specs.Numbers.{le, octets}
use Rattle.units.specs.declared.Seconds.{Seconds}

-- the lifetime that it asks for
unfoldable pub timeout_of : List ℕ → Option Seconds
timeout_of s =
    if eqb (length s) 5 && eqb (get_or s 0 0) 2 && not (eqb (le 4 s 1) 0) then Some (record { 0 = le 4 s 1 })
    else None

abbrev pub timeout_size : ℕ
timeout_size = 7

-- the whole element: ID 56, length 5, type 2, the seconds
unfoldable pub timeout_octets : Seconds → List ℕ
timeout_octets lifetime = (56 ∷ 5 ∷ 2 ∷ []) ++ octets 4 lifetime.0
