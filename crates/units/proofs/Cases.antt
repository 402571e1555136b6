-- Worked examples.
use mathlib.Core.Path.{◌≡◌, refl}
use mathlib.Core.Bool.{true, false}
use Rattle.units.specs.Units.{in_tu, in_clock}

pub fifteen : in_tu (record { 0 = 15 }) ≡ record { 0 = 14648 }
fifteen = refl

pub at_the_limit : in_clock (record { 0 = 281474976710656 }) ≡ true
at_the_limit = refl

pub past_the_limit : in_clock (record { 0 = 281474976710657 }) ≡ false
past_the_limit = refl
