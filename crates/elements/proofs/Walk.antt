-- Laws of the walk. Three say what it is, with no bound on its steps, and an induction goes along it.
use mathlib.Core.Path.{◌≡◌, refl, sym, ap, ◌∙◌, subst}
use mathlib.Core.List.{List, [], ◌∷◌, ◌++◌, append_assoc}
use Prim.Native.Nat.{ℕ, zero, suc, ◌+◌, ◌-◌, ◌<◌, ◌≤◌}
use native.Mathlib.Omega.{arith}
use lib.ListN.{length, take, drop, take-append-drop, drop_of_length-le}
use lib.Seq.{drop-drop}
use Rattle.elements.specs.declared.Element.{Element}
use Rattle.elements.specs.declared.Met.{Met}
use Rattle.elements.specs.declared.Met.TheVariants.{Stands, End, Failed}
use Rattle.elements.specs.Met.{met_at}
use Rattle.elements.specs.Walk.{Walk, walked, failed_at, ◌then◌, onward, walk_for, walk}
use Rattle.elements.proofs.Standing.{Stood, stood, ended, stands_append}

pub then_none : (w : Walk) → [] then w ≡ w
then_none (walked es) = refl
then_none (failed_at place) = refl

pub then_then : (es fs : List Element) (w : Walk) → (es ++ fs) then w ≡ es then fs then w
then_then es fs (walked gs) = ap walked (append_assoc es fs gs)
then_then es fs (failed_at place) = refl

-- any number of steps above the octets that are left gives the same walk
enough : (f g : ℕ) (s : List ℕ) (at : ℕ) → length s - at < f → length s - at < g → walk_for f s at ≡ walk_for g s at
unfolding walk_for
enough zero g s at h k = absurd (omega arith)
enough (suc f) zero s at h k = absurd (omega arith)
enough (suc f) (suc g) s at h k = go (λ m p q. enough f g s m p q) (met_at s at) refl
  where
    go : ((m : ℕ) → length s - m < f → length s - m < g → walk_for f s m ≡ walk_for g s m) → (st : Met) → met_at s at ≡ st
        → onward (walk_for f s) at st ≡ onward (walk_for g s) at st
    go ih (Stands e) q =
        let st = stood s at e q in
        ap (λ (w : Walk). (e ∷ []) then w) (ih e.next (omega arith) (omega arith))
    go ih End q = refl
    go ih Failed q = refl

module _ (s : List ℕ) (at : ℕ) where
  pub walk_stands : (e : Element) → met_at s at ≡ Stands e → walk s at ≡ (e ∷ []) then walk s e.next
  unfolding walk walk_for
  walk_stands e q =
      let st = stood s at e q in
      ap (onward (walk_for (length s) s) at) q
      ∙ ap (λ (w : Walk). (e ∷ []) then w) (enough (length s) (suc (length s)) s e.next (omega arith) (omega arith))

  pub walk_ends : met_at s at ≡ End → walk s at ≡ walked []
  unfolding walk walk_for
  walk_ends q = ap (onward (walk_for (length s) s) at) q

  pub walk_fails : met_at s at ≡ Failed → walk s at ≡ failed_at at
  unfolding walk walk_for
  walk_fails q = ap (onward (walk_for (length s) s) at) q

-- What holds where the walk ends and where it fails, and of an element and the rest if of the rest, holds of the walk.
module _ (s : List ℕ) (P : ℕ → Walk → Type 0) (at_end : (at : ℕ) → met_at s at ≡ End → P at (walked []))
    (at_failure : (at : ℕ) → met_at s at ≡ Failed → P at (failed_at at))
    (at_element : (at : ℕ) (e : Element) → met_at s at ≡ Stands e → P e.next (walk s e.next) → P at ((e ∷ []) then walk s e.next)) where
  bounded : (f at : ℕ) → length s - at < f → P at (walk s at)
  bounded zero at h = absurd (omega arith)
  bounded (suc f) at h = go (λ m k. bounded f m k) (met_at s at) refl
    where
      go : ((m : ℕ) → length s - m < f → P m (walk s m)) → (st : Met) → met_at s at ≡ st → P at (walk s at)
      go ih (Stands e) q =
          let st = stood s at e q in
          subst (P at) (sym (walk_stands s at e q)) (at_element at e q (ih e.next (omega arith)))
      go ih End q = subst (P at) (sym (walk_ends s at q)) (at_end at q)
      go ih Failed q = subst (P at) (sym (walk_fails s at q)) (at_failure at q)

  pub walk_induction : (at : ℕ) → P at (walk s at)
  walk_induction at = bounded (suc (length s)) at (omega arith)

-- something of each of some elements, and of each of a walk that comes to its end
abbrev pub Each : (Element → Type 0) → List Element → Type 0
Each P [] = Unit {0}
Each P (e ∷ es) = P e × Each P es

abbrev pub EachOf : (Element → Type 0) → Walk → Type 0
EachOf P (walked es) = Each P es
EachOf P (failed_at place) = Unit {0}

-- Every element found stands at its place, and so within the body.
pub each_stood : (s : List ℕ) (at : ℕ) → EachOf (λ e. Stood s e.place e) (walk s at)
each_stood s = walk_induction s (λ at w. EachOf (λ e. Stood s e.place e) w) (λ at q. tt) (λ at q. tt) at_element
  where
    one_more : (e : Element) (w : Walk) → Stood s e.place e → EachOf (λ e. Stood s e.place e) w → EachOf (λ e. Stood s e.place e) ((e ∷ []) then w)
    one_more e (walked es) st h = (st, h)
    one_more e (failed_at place) st h = tt

    at_element : (at : ℕ) (e : Element) → met_at s at ≡ Stands e → EachOf (λ e. Stood s e.place e) (walk s e.next)
        → EachOf (λ e. Stood s e.place e) ((e ∷ []) then walk s e.next)
    at_element at e q h =
        let st = stood s at e q in
        one_more e (walk s e.next) (subst (λ (p : ℕ). Stood s p e) (sym st.place) st) h

-- some elements of s, laid end to end
abbrev pub laid : List ℕ → List Element → List ℕ
laid s [] = []
laid s (e ∷ es) = take (e.next - e.place) (drop e.place s) ++ laid s es

abbrev Laid : List ℕ → ℕ → Walk → Type 0
Laid s at (walked es) = at ≤ length s → laid s es ≡ drop at s
Laid s at (failed_at place) = Unit {0}

-- The elements, laid end to end, are the octets that were walked.
pub laid_out : (s : List ℕ) (at : ℕ) (es : List Element) → walk s at ≡ walked es → at ≤ length s → laid s es ≡ drop at s
laid_out s at es q = subst (Laid s at) q (walk_induction s (Laid s) at_end (λ at q. tt) at_element at)
  where
    at_end : (at : ℕ) → met_at s at ≡ End → Laid s at (walked [])
    at_end at q h = sym (drop_of_length-le s (ended s at q))

    one_more : (at : ℕ) (e : Element) (w : Walk) → Stood s at e → Laid s e.next w → Laid s at ((e ∷ []) then w)
    one_more at e (walked es) st h = λ k.
        let n : at + (e.next - at) ≡ e.next = omega arith in
        rw (st.place, h st.within) (ap (λ (k : ℕ). take (e.next - at) (drop at s) ++ drop k s) (sym n) ∙ ap (λ (l : List ℕ). take (e.next - at) (drop at s) ++ l) (sym (drop-drop (e.next - at) at s)) ∙ take-append-drop (e.next - at) (drop at s))
    one_more at e (failed_at place) st h = tt

    at_element : (at : ℕ) (e : Element) → met_at s at ≡ Stands e → Laid s e.next (walk s e.next) → Laid s at ((e ∷ []) then walk s e.next)
    at_element at e q h = one_more at e (walk s e.next) (stood s at e q) h

-- Where a walks to its end, a ++ b walks through the same elements and on from there.
abbrev Through : List ℕ → List ℕ → ℕ → Walk → Type 0
Through a b at (walked es) = at ≤ length a → walk (a ++ b) at ≡ es then walk (a ++ b) (length a)
Through a b at (failed_at place) = Unit {0}

pub walk_append : (a b : List ℕ) (at : ℕ) (es : List Element) → walk a at ≡ walked es → at ≤ length a
    → walk (a ++ b) at ≡ es then walk (a ++ b) (length a)
walk_append a b at es q = subst (Through a b at) q (walk_induction a (Through a b) at_end (λ at q. tt) at_element at)
  where
    at_end : (at : ℕ) → met_at a at ≡ End → Through a b at (walked [])
    at_end at q h =
        let n : at ≡ length a = omega (arith, ended a at q) in
        ap (walk (a ++ b)) n ∙ sym (then_none (walk (a ++ b) (length a)))

    one_more : (at : ℕ) (e : Element) (w : Walk) → met_at a at ≡ Stands e → Through a b e.next w → Through a b at ((e ∷ []) then w)
    one_more at e (walked es) q h = λ k.
        let st = stood a at e q in
        walk_stands (a ++ b) at e (stands_append a b at e q)
        ∙ ap (λ (w : Walk). (e ∷ []) then w) (h st.within)
        ∙ sym (then_then (e ∷ []) es (walk (a ++ b) (length a)))
    one_more at e (failed_at place) q h = tt

    at_element : (at : ℕ) (e : Element) → met_at a at ≡ Stands e → Through a b e.next (walk a e.next)
        → Through a b at ((e ∷ []) then walk a e.next)
    at_element at e q h = one_more at e (walk a e.next) q h
