-- Seconds and TU. A TU is 1,024 microseconds, so a second is 15625 / 16 TU.
use Rattle.std.specs.Prelude.{ℕ, ◌*◌, ◌/◌, ◌^◌, Bool, leb}
use Rattle.units.specs.declared.Seconds.{Seconds}
use Rattle.units.specs.declared.Tu.{Tu}

-- S seconds are floor(S × 15625 / 16) TU
abbrev pub in_tu : Seconds → Tu
in_tu s = record { 0 = s.0 * 15625 / 16 }

-- the clock is at most 2^48
abbrev pub clock_limit : ℕ
clock_limit = 2 ^ 48

abbrev pub in_clock : Tu → Bool
in_clock t = leb t.0 clock_limit
