-- Laws of pieces: the k-th is that very part of the string.
use mathlib.Core.Path.{◌≡◌, refl, ap, ◌∙◌}
use mathlib.Core.List.{List, []}
use Prim.Native.Nat.{ℕ, zero, suc, ◌+◌, ◌*◌, ◌<◌}
use native.Mathlib.Nat.{mul-zero, mul-suc}
use native.Mathlib.Omega.{arith}
use lib.ListN.{length, get_or, take, drop}
use lib.Seq.{drop-drop}
use Rattle.octets.specs.Pieces.{pieces}

pub length_pieces : (size count : ℕ) (s : List ℕ) → length (pieces size count s) ≡ count
unfolding pieces
length_pieces size zero s = refl
length_pieces size (suc count) s = ap suc (length_pieces size count (drop size s))

pub piece_at : (size count : ℕ) (s : List ℕ) (k : ℕ) → k < count → get_or (pieces size count s) k [] ≡ take size (drop (size * k) s)
unfolding pieces
piece_at size zero s k h = absurd (omega arith)
piece_at size (suc count) s zero h = rw (mul-zero size)
piece_at size (suc count) s (suc k) h =
    let e : size + size * k ≡ size * suc k = omega (arith, mul-suc size k) in
    piece_at size count (drop size s) k (omega arith) ∙ ap (take size) (drop-drop (size * k) size s ∙ ap (λ (n : ℕ). drop n s) e)
