-- Laws of what the walk meets: what is known of an element that stands at a place, and when one does.
use mathlib.Core.Path.{◌≡◌, refl, sym, ap, ◌∙◌}
use mathlib.Core.Bool.{Bool, true, false, ◌&&◌}
use mathlib.Core.List.{List, ◌++◌}
use Prim.Native.Nat.{ℕ, ◌+◌, ◌-◌, ◌<◌, ◌≤◌}
use native.Mathlib.Omega.{arith}
use borrow.Author.Tests.{leb-true, leb-false, le-leb, lt-leb, le-ltb, eqb-true, eqb-false, ne_eqb, ltb-false}
use lib.Dec.{ltb, leb, eqb}
use lib.ListN.{length, get_or, length-append, get_or-append}
use Rattle.std.specs.Prelude.{Option, Some, None, if◌then◌else◌}
use Rattle.elements.specs.declared.Element.{Element}
use Rattle.elements.specs.declared.Met.TheVariants.{Stands, End, Failed}
use Rattle.elements.specs.Met.{element_at, met_at}

-- An element stands at a place of s.
pub record Stood (s : List ℕ) (at : ℕ) (e : Element) : Type 0 where
  pub is : e ≡ element_at s at
  pub place : e.place ≡ at
  pub start : e.start ≡ at + 2
  pub next : e.next ≡ e.start + e.length
  pub within : e.next ≤ length s
  pub extended : e.id ≡ 255 → 0 < e.length

stands_same : {d e : Element} → Stands d ≡ Stands e → e ≡ d
stands_same q = cc

end_stands : {e : Element} → End ≡ Stands e → ⊥
end_stands q = let z : ◌≡◌ {A = ℕ} 0 1 = cc in omega arith

failed_stands : {e : Element} → Failed ≡ Stands e → ⊥
failed_stands q = let z : ◌≡◌ {A = ℕ} 0 1 = cc in omega arith

failed_end : Failed ≡ End → ⊥
failed_end q = let z : ◌≡◌ {A = ℕ} 0 1 = cc in omega arith

pub stood : (s : List ℕ) (at : ℕ) (e : Element) → met_at s at ≡ Stands e → Stood s at e
stood s at e q =
    go (leb (length s) at) refl (eqb (length s - at) 1) refl (ltb (length s - (at + 2)) (get_or s (at + 1) 0)) refl
    (eqb (get_or s at 0) 255 && eqb (get_or s (at + 1) 0) 0) refl q
  where
    long : (b c : Bool) → eqb (get_or s at 0) 255 ≡ b → eqb (get_or s (at + 1) 0) 0 ≡ c → b && c ≡ false → get_or s at 0 ≡ 255 → 0 < get_or s (at + 1) 0
    long true true p r f h = let z : ◌≡◌ {A = ℕ} 0 1 = cc in omega arith
    long true false p r f h = omega (arith, eqb-false (get_or s (at + 1) 0) 0 r)
    long false c p r f h = absurd (eqb-false (get_or s at 0) 255 p h)

    go : (b₁ : Bool) → leb (length s) at ≡ b₁ → (b₂ : Bool) → eqb (length s - at) 1 ≡ b₂
        → (b₃ : Bool) → ltb (length s - (at + 2)) (get_or s (at + 1) 0) ≡ b₃
        → (b₄ : Bool) → eqb (get_or s at 0) 255 && eqb (get_or s (at + 1) 0) 0 ≡ b₄
        → (if b₁ then End else (if b₂ then Failed else (if b₃ then Failed else (if b₄ then Failed else Stands (element_at s at))))) ≡ Stands e
        → Stood s at e
    go true p₁ b₂ p₂ b₃ p₃ b₄ p₄ q = absurd (end_stands q)
    go false p₁ true p₂ b₃ p₃ b₄ p₄ q = absurd (failed_stands q)
    go false p₁ false p₂ true p₃ b₄ p₄ q = absurd (failed_stands q)
    go false p₁ false p₂ false p₃ true p₄ q = absurd (failed_stands q)
    go false p₁ false p₂ false p₃ false p₄ q =
        let d = stands_same q in
        let i : e.id ≡ get_or s at 0 = ap (λ (e : Element). e.id) d in
        let n : e.length ≡ get_or s (at + 1) 0 = ap (λ (e : Element). e.length) d in
        let m : e.next ≡ at + 2 + get_or s (at + 1) 0 = ap (λ (e : Element). e.next) d in
        record {
          is = d;
          place = ap (λ (e : Element). e.place) d;
          start = ap (λ (e : Element). e.start) d;
          next = m ∙ sym (rw (n, ap (λ (e : Element). e.start) d));
          within = omega (arith, leb-false (length s) at p₁, eqb-false (length s - at) 1 p₂, ltb-false (length s - (at + 2)) (get_or s (at + 1) 0) p₃);
          extended = λ h. rw n (long (eqb (get_or s at 0) 255) (eqb (get_or s (at + 1) 0) 0) refl refl p₄ (sym i ∙ h));
        }

-- Two octets and as many as the second says are an element, unless it is an empty one of ID 255.
pub stands : (s : List ℕ) (at : ℕ) → at + 2 + get_or s (at + 1) 0 ≤ length s → (get_or s at 0 ≡ 255 → 0 < get_or s (at + 1) 0)
    → met_at s at ≡ Stands (element_at s at)
stands s at h k =
    rw (
      lt-leb (length s) at (omega arith),
      ne_eqb (length s - at) 1 (λ e. omega arith),
      le-ltb (length s - (at + 2)) (get_or s (at + 1) 0) (omega arith),
      go (eqb (get_or s at 0) 255) (eqb (get_or s (at + 1) 0) 0) refl refl,
    )
  where
    go : (b c : Bool) → eqb (get_or s at 0) 255 ≡ b → eqb (get_or s (at + 1) 0) 0 ≡ c → b && c ≡ false
    go true true p r = absurd (omega (arith, k (eqb-true (get_or s at 0) 255 p), eqb-true (get_or s (at + 1) 0) 0 r))
    go true false p r = refl
    go false c p r = refl

pub ends : (s : List ℕ) (at : ℕ) → length s ≤ at → met_at s at ≡ End
ends s at h = rw (le-leb (length s) at h)

-- where the walk ends, nothing is left
pub ended : (s : List ℕ) (at : ℕ) → met_at s at ≡ End → length s ≤ at
ended s at q =
    go (leb (length s) at) refl (eqb (length s - at) 1) (ltb (length s - (at + 2)) (get_or s (at + 1) 0))
    (eqb (get_or s at 0) 255 && eqb (get_or s (at + 1) 0) 0) q
  where
    go : (b₁ : Bool) → leb (length s) at ≡ b₁ → (b₂ b₃ b₄ : Bool)
        → (if b₁ then End else (if b₂ then Failed else (if b₃ then Failed else (if b₄ then Failed else Stands (element_at s at))))) ≡ End
        → length s ≤ at
    go true p b₂ b₃ b₄ q = leb-true (length s) at p
    go false p true b₃ b₄ q = absurd (failed_end q)
    go false p false true b₄ q = absurd (failed_end q)
    go false p false false true q = absurd (failed_end q)
    go false p false false false q = absurd (end_stands (sym q))

-- An element is made of its ID, its length and, with ID 255, its extension ID.
pub element_same : (s t : List ℕ) (at : ℕ) → get_or s at 0 ≡ get_or t at 0 → get_or s (at + 1) 0 ≡ get_or t (at + 1) 0
    → (get_or t at 0 ≡ 255 → get_or s (at + 2) 0 ≡ get_or t (at + 2) 0) → element_at s at ≡ element_at t at
element_same s t at i n x = rw (i, n) (go (eqb (get_or t at 0) 255) refl)
  where
    by : Option ℕ → Element
    by x = record { id = get_or t at 0; extension = x; place = at; start = at + 2; length = get_or t (at + 1) 0; next = at + 2 + get_or t (at + 1) 0 }

    go : (b : Bool) → eqb (get_or t at 0) 255 ≡ b → by (if b then Some (get_or s (at + 2) 0) else None) ≡ by (if b then Some (get_or t (at + 2) 0) else None)
    go true p = ap (λ (k : ℕ). by (Some k)) (x (eqb-true (get_or t at 0) 255 p))
    go false p = refl

-- an element within a is one within a ++ b
pub stands_append : (a b : List ℕ) (at : ℕ) (e : Element) → met_at a at ≡ Stands e → met_at (a ++ b) at ≡ Stands e
stands_append a b at e q =
    let st = stood a at e q in
    let n : e.length ≡ get_or a (at + 1) 0 = ap (λ (e : Element). e.length) st.is in
    let i : e.id ≡ get_or a at 0 = ap (λ (e : Element). e.id) st.is in
    let e₀ : get_or (a ++ b) at 0 ≡ get_or a at 0 = get_or-append a b 0 at (omega arith) in
    let e₁ : get_or (a ++ b) (at + 1) 0 ≡ get_or a (at + 1) 0 = get_or-append a b 0 (at + 1) (omega arith) in
    stands (a ++ b) at (omega (arith, length-append a b)) (λ h. omega (arith, st.extended (i ∙ sym e₀ ∙ h)))
    ∙ ap Stands (element_same (a ++ b) a at e₀ e₁ (λ h. get_or-append a b 0 (at + 2) (omega (arith, st.extended (i ∙ h)))) ∙ sym st.is)
