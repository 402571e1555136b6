-- Further laws of writers: an array written whole, a chain of writers at constant places, and what is written over the front.
use Prim.Native.Nat.{ℕ, ◌+◌, ◌-◌, ◌≤◌}
use mathlib.Core.Path.{◌≡◌, sym, ap, ◌∙◌}
use mathlib.Core.List.{List, ◌++◌, append_assoc, append-nil}
use native.Mathlib.Omega.{arith}
use lib.ListN.{length, take, drop, length-append, length-drop, drop_of_length-le}
use lib.Seq.{length-take-le, drop_at}
use borrow.Rule.Slice.PartMut.{put_mid}
use Rattle.octets.specs.Wrote.{Wrote}
use Rattle.octets.proofs.Parts.{wrote_more}

pub copied : {x before after : List ℕ} {n : ℕ} → Wrote x n before after → length before ≤ length x → after ≡ x
copied {x} {before} w h = w.leaves ∙ rw (drop_of_length-le before h) (append-nil x)

-- and with a part of r
pub copied_part : (r : List ℕ) (at n : ℕ) {before after : List ℕ} {m : ℕ} → Wrote (take n (drop at r)) m before after → length before ≡ n → at + n ≤ length r
    → after ≡ take n (drop at r)
copied_part r at n w l h = copied w (omega (arith, length-take-le n (drop at r) (omega (arith, length-drop at r))))

-- and with the part of r from a up to a + n
pub copied_between : (r : List ℕ) (a n : ℕ) {before after : List ℕ} {m : ℕ} → Wrote (take (a + n - a) (drop a r)) m before after → length before ≡ n → a + n ≤ length r
    → after ≡ take n (drop a r)
copied_between r a n w l h =
    let e : a + n - a ≡ n = omega arith in
    copied_part r a n (rw e at w) l h

-- the number told, by another name
pub retold : {x before after : List ℕ} {n : ℕ} (m : ℕ) → Wrote x n before after → length x ≡ m → Wrote x m before after
retold m w e = record { tells = sym e; leaves = w.leaves }

-- the next writer was lent the part from a on, and wrote k octets there
pub more : {a k n : ℕ} {x y before after ys : List ℕ} → Wrote x a before after → Wrote y n (take (length after - a) (drop a after)) ys → length y ≡ k
    → Wrote (x ++ y) (a + k) before (put_mid a (length after - a) after ys)
more {a} {k} {x = x} {y = y} v w e = retold (a + k) (wrote_more v w) (length-append x y ∙ omega (arith, v.tells, e))

-- other octets, as many, written over the front of what was written
pub wrote_over : (a rest : List ℕ) {b before mid after : List ℕ} {n k : ℕ} → length a ≡ length b → Wrote (a ++ rest) n before mid → Wrote b k mid after
    → Wrote (b ++ rest) n before after
wrote_over a rest {b} {before} e w v =
    let n : length (a ++ rest) ≡ length (b ++ rest) = length-append a rest ∙ omega (arith, length-append b rest) in
    record {
      tells = w.tells ∙ n;
      leaves = v.leaves
          ∙ ap (λ (l : List ℕ). b ++ drop (length b) l) (w.leaves ∙ append_assoc a rest (drop (length (a ++ rest)) before))
          ∙ ap (λ (l : List ℕ). b ++ l) (drop_at a (rest ++ drop (length (a ++ rest)) before) (length b) e)
          ∙ ap (λ (k : ℕ). b ++ (rest ++ drop k before)) n
          ∙ sym (append_assoc b rest (drop (length (b ++ rest)) before));
    }
