-- Laws of the conversion.
use Prim.Native.Nat.{◌+◌, ◌*◌, ◌<◌, ◌≤◌}
use native.Mathlib.Omega.{arith}
use Rattle.units.specs.declared.Seconds.{Seconds}
use Rattle.units.specs.Units.{in_tu}

-- The TU are the most whole ones that fit into the seconds: no rounding up, and none lost.
pub record Floor (s : Seconds) : Type 0 where
  pub fits : 16 * (in_tu s).0 ≤ 15625 * s.0
  pub most : 15625 * s.0 < 16 * ((in_tu s).0 + 1)

pub floor : (s : Seconds) → Floor s
floor s = record { fits = omega arith; most = omega arith }

-- more seconds are no fewer TU
pub in_order : (s t : Seconds) → s.0 ≤ t.0 → (in_tu s).0 ≤ (in_tu t).0
in_order s t h = omega arith
