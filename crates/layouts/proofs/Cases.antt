-- Worked examples.
use mathlib.Core.Path.{◌≡◌, refl}
use mathlib.Core.List.{[], ◌∷◌}
use Rattle.std.specs.Prelude.{None, Some}
use Rattle.octets.specs.Numbers.{le, octets}
use Rattle.layouts.specs.Mic.{mic_octets}
use Rattle.layouts.specs.Timeout.{timeout_of, timeout_octets}

-- Timeout Interval
pub ten_minutes : timeout_of (2 ∷ 0x58 ∷ 0x02 ∷ 0 ∷ 0 ∷ []) ≡ Some (record { 0 = 600 })
unfolding timeout_of le
ten_minutes = refl

pub ten_minutes_written : timeout_octets (record { 0 = 600 }) ≡ 0x38 ∷ 5 ∷ 2 ∷ 0x58 ∷ 0x02 ∷ 0 ∷ 0 ∷ []
unfolding timeout_octets octets
ten_minutes_written = refl

pub type_3 : timeout_of (3 ∷ 0x58 ∷ 0x02 ∷ 0 ∷ 0 ∷ []) ≡ None
unfolding timeout_of
type_3 = refl

pub no_seconds : timeout_of (2 ∷ 0 ∷ 0 ∷ 0 ∷ 0 ∷ []) ≡ None
unfolding timeout_of le
no_seconds = refl

pub six_octets : timeout_of (2 ∷ 0x58 ∷ 0x02 ∷ 0 ∷ 0 ∷ 0 ∷ []) ≡ None
unfolding timeout_of
six_octets = refl

-- MIC
pub mic_of_2 : mic_octets 2 ≡ 0x8c ∷ 2 ∷ 0 ∷ 0 ∷ []
unfolding mic_octets
mic_of_2 = refl
