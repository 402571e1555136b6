-- What is written as a Timeout Interval reads back, and no lifetime that is read is 0.
use mathlib.Core.Path.{◌≡◌, ◌∙◌}
use mathlib.Core.List.{List, [], ◌∷◌}
use Prim.Native.Nat.{ℕ, ◌^◌, ◌<◌}
use native.Mathlib.Omega.{arith}
use borrow.Author.Tests.{ne_eqb}
use lib.ListN.{length, drop}
use Rattle.std.specs.Prelude.{Some}
use Rattle.octets.specs.Numbers.{le, octets}
use Rattle.octets.proofs.Numbers.{length_octets, le_append_right, le_octets}
use Rattle.units.specs.declared.Seconds.{Seconds}
use Rattle.layouts.specs.Timeout.{timeout_of, timeout_size, timeout_octets}

pub length_timeout : (l : Seconds) → length (timeout_octets l) ≡ timeout_size
unfolding timeout_octets
length_timeout l = omega (arith, length_octets 4 l.0)

pub timeout_reads_back : (l : Seconds) → 0 < l.0 → l.0 < 2 ^ 32 → timeout_of (drop 2 (timeout_octets l)) ≡ Some l
unfolding timeout_of timeout_octets
timeout_reads_back l some small =
    let seconds : le 4 (2 ∷ octets 4 l.0) 1 ≡ l.0 = le_append_right 4 (2 ∷ []) (octets 4 l.0) 0 ∙ le_octets 4 l.0 small in
    simp (length_octets 4 l.0, seconds, ne_eqb l.0 0 (λ e. omega arith))

pub timeout_asks : (s : List ℕ) {l : Seconds} → timeout_of s ≡ Some l → 0 < l.0
unfolding timeout_of
timeout_asks s {l} e = grind arith
