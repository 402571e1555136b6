-- Pieces of a string: what stands behind them does not matter, and a piece may be put in the place of another.
use Prim.Native.Nat.{ℕ, zero, suc, ◌+◌, ◌*◌, ◌≤◌, ◌<◌}
use mathlib.Core.Path.{◌≡◌, refl, ap}
use mathlib.Core.List.{List, ◌∷◌, ◌++◌, append_assoc}
use native.Mathlib.Nat.{mul-zero, mul-suc}
use native.Mathlib.Omega.{arith}
use lib.ListN.{length, take, drop, set, length-drop}
use lib.Seq.{length-take-le, take-add, take_at, drop_at, drop-drop, take-append-le, drop-append-le}
use Rattle.octets.specs.Pieces.{pieces}

pub pieces_append : (size count : ℕ) (a b : List ℕ) → size * count ≤ length a → pieces size count (a ++ b) ≡ pieces size count a
unfolding pieces
pieces_append size zero a b h = refl
pieces_append size (suc count) a b h =
    let k : size + size * count ≤ length a = omega (arith, mul-suc size count) in
    rw (take-append-le size a b (omega arith), drop-append-le size a b (omega arith))
    (ap (λ (l : List (List ℕ)). take size a ∷ l) (pieces_append size count (drop size a) b (omega (arith, length-drop size a))))

pub pieces_put : (size count k : ℕ) (s x : List ℕ) → k < count → length x ≡ size → size * count ≤ length s
    → pieces size count (take (size * k) s ++ (x ++ drop (size * k + size) s)) ≡ set (pieces size count s) k x
unfolding pieces
pieces_put size zero k s x h l n = absurd (omega arith)
pieces_put size (suc count) zero s x h l n =
    let z : size * 0 + size ≡ size = omega (arith, mul-zero size) in
    rw (z, mul-zero size, take_at x (drop size s) size l, drop_at x (drop size s) size l)
pieces_put size (suc count) (suc k) s x h l n =
    let m : size + size * count ≤ length s = omega (arith, mul-suc size count) in
    let rest = drop size s in
    let t : length (take size s) ≡ size = length-take-le size s (omega arith) in
    let e : size * suc k ≡ size + size * k = omega (arith, mul-suc size k) in
    let f : size + size * k + size ≡ size + (size * k + size) = omega arith in
    let body = take (size * k) rest ++ (x ++ drop (size * k + size) rest) in
    let whole : take (size * suc k) s ++ (x ++ drop (size * suc k + size) s) ≡ take size s ++ body =
    rw (e, take-add size (size * k) s, f, ← drop-drop (size * k + size) size s) (append_assoc (take size s) (take (size * k) rest) _) in
    rw (whole, take_at (take size s) body size t, drop_at (take size s) body size t)
    (ap (λ (l : List (List ℕ)). take size s ∷ l) (pieces_put size count k rest x (omega arith) l (omega (arith, length-drop size s))))
