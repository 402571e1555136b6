-- Worked examples.
use mathlib.Core.Path.{◌≡◌, refl}
use mathlib.Core.Bool.{true, false}
use mathlib.Core.List.{[], ◌∷◌}
use Rattle.octets.specs.Equality.{same_octets}
use Rattle.octets.specs.Numbers.{le, octets}

pub two_read : le 2 (0xff ∷ 0x34 ∷ 0x12 ∷ []) 1 ≡ 0x1234
unfolding le
two_read = refl

pub past_the_end : le 4 (0x34 ∷ 0x12 ∷ []) 1 ≡ 0x12
unfolding le
past_the_end = refl

pub four_written : octets 4 0x12345678 ≡ 0x78 ∷ 0x56 ∷ 0x34 ∷ 0x12 ∷ []
unfolding octets
four_written = refl

pub high_octets_left_out : octets 2 0x12345678 ≡ 0x78 ∷ 0x56 ∷ []
unfolding octets
high_octets_left_out = refl

pub alike : same_octets (1 ∷ 2 ∷ []) (1 ∷ 2 ∷ []) ≡ true
alike = refl

pub no_prefix : same_octets (1 ∷ 2 ∷ []) (1 ∷ 2 ∷ 3 ∷ []) ≡ false
no_prefix = refl
