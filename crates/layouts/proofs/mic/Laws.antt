-- What is written as a MIC: so many zeros.
use mathlib.Core.Path.{◌≡◌, refl}
use Prim.Native.Nat.{ℕ, ◌+◌}
use native.Mathlib.Omega.{arith}
use lib.ListN.{length, drop, replicate, length-replicate}
use Rattle.layouts.specs.Mic.{mic_size, mic_octets}

pub length_mic : (n : ℕ) → length (mic_octets n) ≡ n + mic_size
unfolding mic_octets
length_mic n = omega (arith, length-replicate {A = ℕ} n 0)

pub mic_content : (n : ℕ) → drop 2 (mic_octets n) ≡ replicate n 0
unfolding mic_octets
mic_content n = refl
