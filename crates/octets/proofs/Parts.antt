-- Laws of writers: a loop that writes from the front, and a chain of writers, each lent the part where the last one ended.
use mathlib.Core.Path.{◌≡◌, refl, sym, ap, ◌∙◌}
use mathlib.Core.List.{List, [], ◌∷◌, ◌++◌, append_assoc, append-nil}
use Prim.Native.Nat.{ℕ, ◌+◌, ◌-◌, ◌<◌, ◌≤◌}
use native.Mathlib.Omega.{arith}
use native.Mathlib.Numerals.{add-one}
use lib.ListN.{length, take, drop, set, length-append, length-drop, length-set, take-append-drop}
use lib.Seq.{length-take-le, take_all, drop-drop, drop-length, drop-cons, set_at, take_at, drop_at}
use borrow.Rule.Slice.PartMut.{put_mid}
use Rattle.octets.specs.Wrote.{Wrote}

-- How far a loop has come that writes d from the front: `written` stands there, and d was d₀.
pub record Writing (d₀ written d : List ℕ) (i : ℕ) : Type 0 where
  pub count : length written ≡ i
  pub kept : length d ≡ length d₀
  pub stands : d ≡ written ++ drop i d₀

pub writing_none : (d : List ℕ) → Writing d [] d 0
writing_none d = record { count = refl; kept = refl; stands = refl }

-- one store more
pub writing_more : {d₀ written next d : List ℕ} {i : ℕ} (v : ℕ) → Writing d₀ written d i → i < length d₀ → next ≡ written ++ (v ∷ [])
    → Writing d₀ next (set d i v) (i + 1)
writing_more {d₀} {written} {next} {d} {i} v w h e = record {
  count = ap length e ∙ length-append written (v ∷ []) ∙ ap (λ (k : ℕ). k + 1) w.count;
  kept = length-set d i v ∙ w.kept;
  stands = ap (λ (l : List ℕ). set l i v) (w.stands ∙ ap (λ (l : List ℕ). written ++ l) (drop-cons d₀ i 0 h))
      ∙ set_at written _ _ v i w.count
      ∙ sym (append_assoc written (v ∷ []) _)
      ∙ ap (λ (k : ℕ). (written ++ (v ∷ [])) ++ drop k d₀) (sym (add-one i))
      ∙ ap (λ (l : List ℕ). l ++ drop (i + 1) d₀) (sym e);
}

-- the loop's end, where i turns write `f i`
pub writing_done : (f : ℕ → List ℕ) {d₀ d : List ℕ} {i n : ℕ} → Writing d₀ (f i) d i → i ≤ n → n ≤ i → Wrote (f n) n d₀ d
writing_done f {d₀} {d} {i} {n} w h k =
    let e : i ≡ n = omega arith in
    let c : length (f n) ≡ n = ap (λ (j : ℕ). length (f j)) (sym e) ∙ w.count ∙ e in
    record { tells = sym c; leaves = w.stands ∙ ap (λ (j : ℕ). f j ++ drop j d₀) e ∙ ap (λ (j : ℕ). f n ++ drop j d₀) (sym c) }

-- A chain begins with nothing written.
pub wrote_none : (d : List ℕ) → Wrote [] 0 d d
wrote_none d = record { tells = refl; leaves = refl }

-- what stands already counts as written
pub wrote_front : (d : List ℕ) (a : ℕ) → a ≤ length d → Wrote (take a d) a d d
wrote_front d a h =
    let n : length (take a d) ≡ a = length-take-le a d h in
    record { tells = sym n; leaves = sym (ap (λ (k : ℕ). take a d ++ drop k d) n ∙ take-append-drop a d) }

-- what was written stands at the front
pub wrote_stands : {written before after : List ℕ} {n : ℕ} → Wrote written n before after → take n after ≡ written
wrote_stands {written} {before} {n = n} w = ap (take n) w.leaves ∙ take_at written (drop (length written) before) n (sym w.tells)

-- and lies within what is there afterwards
pub wrote_within : {written before after : List ℕ} {n : ℕ} → Wrote written n before after → n ≤ length after
wrote_within {written} {before} w =
    omega (arith, w.tells, ap length w.leaves ∙ length-append written (drop (length written) before))

pub wrote_length : {written before after : List ℕ} {n : ℕ} → Wrote written n before after → length written ≤ length before
    → length after ≡ length before
wrote_length {written} {before} {after} w h =
    ap length w.leaves ∙ length-append written (drop (length written) before) ∙ omega (arith, length-drop (length written) before)

-- what is left to write into after a chain
module _ {written before after : List ℕ} {a : ℕ} (w : Wrote written a before after) where
  rest : drop a after ≡ drop a before
  rest = ap (drop a) w.leaves ∙ drop_at written (drop (length written) before) a (sym w.tells) ∙ ap (λ (k : ℕ). drop k before) (sym w.tells)

  part : take (length after - a) (drop a after) ≡ drop a before
  part = take_all (length after - a) (drop a after) (omega (arith, length-drop a after)) ∙ rest

  -- the next writer has a part to be lent, with room for n octets
  pub record Room (n : ℕ) : Type 0 where
    pub start : a ≤ length after
    pub room : n ≤ length (take (length after - a) (drop a after))

  pub wrote_room : (n : ℕ) → a + n ≤ length before → Room n
  wrote_room n h = record {
    start = omega (arith, wrote_length w (omega (arith, w.tells)));
    room = rw part (omega (arith, length-drop a before));
  }

  -- the next writer was lent the part from a on, and wrote `more` there
  pub wrote_more : {more ys : List ℕ} {n : ℕ} → Wrote more n (take (length after - a) (drop a after)) ys
      → Wrote (written ++ more) (a + n) before (put_mid a (length after - a) after ys)
  wrote_more {more} {ys} {n} v = record {
    tells = omega (arith, length-append written more, w.tells, v.tells);
    leaves = ap (λ (l : List ℕ). l ++ (ys ++ drop (length after - a) (drop a after))) (wrote_stands w)
        ∙ ap (λ (l : List ℕ). written ++ (ys ++ l)) none_left
        ∙ ap (λ (l : List ℕ). written ++ l) (append-nil ys ∙ v.leaves ∙ ap (λ (l : List ℕ). more ++ drop (length more) l) part)
        ∙ ap (λ (l : List ℕ). written ++ (more ++ l)) (drop-drop (length more) a before ∙ ap (λ (k : ℕ). drop k before) end)
        ∙ sym (append_assoc written more (drop (length (written ++ more)) before));
  }
    where
      none_left : drop (length after - a) (drop a after) ≡ []
      none_left = ap (λ (k : ℕ). drop k (drop a after)) (sym (length-drop a after)) ∙ drop-length (drop a after)

      end : a + length more ≡ length (written ++ more)
      end = omega (arith, length-append written more, w.tells)
