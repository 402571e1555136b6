-- Laws of numbers in octets, each over the width.
use mathlib.Core.Path.{◌≡◌, refl, sym, ap, ◌∙◌}
use mathlib.Core.List.{List, [], ◌∷◌, ◌++◌}
use Prim.Native.Nat.{ℕ, zero, suc, ◌+◌, ◌*◌, ◌/◌, ◌%◌, ◌^◌, ◌<◌, ◌≤◌}
use native.Mathlib.Nat.{pow-succ', add-zero}
use native.Mathlib.Numerals.{add-one}
use native.Mathlib.Omega.{arith}
use lib.ListN.{length, get_or, take, drop, get_or-append}
use lib.Seq.{drop-cons, get_or-drop, get_or-take, get_or-append-add}
use Rattle.octets.specs.Numbers.{le, octets}

-- Reading looks at its own octets only.
pub le_ext : (w : ℕ) (s t : List ℕ) (a b : ℕ) → ((k : ℕ) → k < w → get_or s (a + k) 0 ≡ get_or t (b + k) 0) → le w s a ≡ le w t b
unfolding le
le_ext zero s t a b h = refl
le_ext (suc w) s t a b h = go (le_ext w s t (a + 1) (b + 1) later)
  where
    later : (k : ℕ) → k < w → get_or s (a + 1 + k) 0 ≡ get_or t (b + 1 + k) 0
    later k l =
        let ea : a + 1 + k ≡ a + suc k = omega arith in
        let eb : b + 1 + k ≡ b + suc k = omega arith in
        rw (ea, eb) (h (suc k) (omega arith))

    go : le w s (a + 1) ≡ le w t (b + 1) → get_or s a 0 + 256 * le w s (a + 1) ≡ get_or t b 0 + 256 * le w t (b + 1)
    go e = rw e (ap (λ (x : ℕ). x + 256 * le w t (b + 1)) (rw (add-zero a, add-zero b) at (h 0 (omega arith))))

-- the same number, read from a part or from the whole
pub le_drop : (w : ℕ) (s : List ℕ) (k at : ℕ) → le w (drop k s) at ≡ le w s (k + at)
le_drop w s k at =
    le_ext w (drop k s) s at (k + at) λ i h.
    let e : k + (at + i) ≡ k + at + i = omega arith in
    get_or-drop k s (at + i) 0 ∙ ap (λ (n : ℕ). get_or s n 0) e

pub le_take : (w : ℕ) (s : List ℕ) (n at : ℕ) → at + w ≤ n → le w (take n s) at ≡ le w s at
le_take w s n at h = le_ext w (take n s) s at at λ i k. get_or-take n s (at + i) 0 (omega arith)

pub le_append_left : (w : ℕ) (a b : List ℕ) (at : ℕ) → at + w ≤ length a → le w (a ++ b) at ≡ le w a at
le_append_left w a b at h = le_ext w (a ++ b) a at at λ i k. get_or-append a b 0 (at + i) (omega arith)

pub le_append_right : (w : ℕ) (a b : List ℕ) (at : ℕ) → le w (a ++ b) (length a + at) ≡ le w b at
le_append_right w a b at =
    le_ext w (a ++ b) b (length a + at) at λ i k.
    let e : length a + at + i ≡ length a + (at + i) = omega arith in
    ap (λ (n : ℕ). get_or (a ++ b) n 0) e ∙ get_or-append-add a b (at + i) 0

-- a number of w octets is below 256 ^ w
pub le_bound : (w : ℕ) (s : List ℕ) (at : ℕ) → ((i : ℕ) → get_or s i 0 < 256) → le w s at < 256 ^ w
unfolding le
le_bound zero s at h = omega arith
le_bound (suc w) s at h = rw (pow-succ' 256 w) (omega (arith, h at, le_bound w s (at + 1) h))

pub length_octets : (w n : ℕ) → length (octets w n) ≡ w
unfolding octets
length_octets zero n = refl
length_octets (suc w) n = ap suc (length_octets w (n / 256))

le_cons : (w x : ℕ) (xs : List ℕ) → le w (x ∷ xs) 1 ≡ le w xs 0
le_cons w x xs = le_append_right w (x ∷ []) xs 0

-- Reading what was written gives the number back.
pub le_octets : (w n : ℕ) → n < 256 ^ w → le w (octets w n) 0 ≡ n
unfolding le octets
le_octets zero n h = omega arith
le_octets (suc w) n h =
    let rest : n / 256 < 256 ^ w = omega (arith, pow-succ' 256 w) in
    rw (le_cons w (n % 256) (octets w (n / 256)), le_octets w (n / 256) rest) (omega arith)

pub reads_back : (w n : ℕ) (before after : List ℕ) → n < 256 ^ w → le w (before ++ (octets w n ++ after)) (length before) ≡ n
reads_back w n before after h =
    ap (le w (before ++ (octets w n ++ after))) (sym (add-zero (length before)))
    ∙ le_append_right w before (octets w n ++ after) 0
    ∙ le_append_left w (octets w n) after 0 (omega (arith, length_octets w n))
    ∙ le_octets w n h

-- A number's octets are those that it was read from.
pub written_so : (w : ℕ) (s : List ℕ) (at : ℕ) → ((i : ℕ) → get_or s i 0 < 256) → at + w ≤ length s → drop at s ≡ octets w (le w s at) ++ drop (at + w) s
unfolding le octets
written_so zero s at small h = rw (add-zero at)
written_so (suc w) s at small h =
    let n : ℕ = get_or s at 0 + 256 * le w s (at + 1) in
    let low : n % 256 ≡ get_or s at 0 = omega (arith, small at) in
    let high : n / 256 ≡ le w s (at + 1) = omega (arith, small at) in
    let next : at + 1 + w ≡ at + suc w = omega arith in
    drop-cons s at 0 (omega arith) ∙ rw (low, high, ← add-one at, written_so w s (at + 1) small (omega arith), next)
