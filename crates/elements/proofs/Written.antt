-- Elements that were written are found where they stand.
use mathlib.Core.Path.{◌≡◌, sym, ap, ◌∙◌}
use mathlib.Core.List.{List, [], ◌∷◌, ◌++◌}
use Prim.Native.Nat.{ℕ, ◌+◌, ◌<◌, ◌≤◌}
use native.Mathlib.Omega.{arith}
use lib.Dec.{eqb}
use lib.ListN.{length, get_or, length-append}
use lib.Seq.{get_or-append_seam, get_or-append-add}
use Rattle.std.specs.Prelude.{Some, None, if◌then◌else◌}
use Rattle.elements.specs.declared.Element.{Element}
use Rattle.elements.specs.declared.Part.{Part}
use Rattle.elements.specs.declared.Met.TheVariants.{Stands}
use Rattle.elements.specs.Met.{met_at}
use Rattle.elements.specs.Walk.{Walk, walked, ◌then◌, walk}
use Rattle.elements.proofs.Standing.{stands, ends}
use Rattle.elements.proofs.Walk.{walk_stands, walk_ends, walk_append}

-- the element of an ID and a content, by its place and the part that the content occupies
abbrev pub element : ℕ → List ℕ → ℕ → Part → Element
element id content place p = record {
  id = id;
  extension = if eqb id 255 then Some (get_or content 0 0) else None;
  place = place;
  start = p.start;
  length = length content;
  next = p.end;
}

-- An element written at the end of a string stands there, and, by `stands_append`, where more follows it too.
pub written_stands : (before content : List ℕ) (id : ℕ) → (id ≡ 255 → 0 < length content)
    → met_at (before ++ (id ∷ length content ∷ content)) (length before)
    ≡ Stands (element id content (length before) (record { start = length before + 2; end = length before + 2 + length content }))
written_stands before content id extended =
    let w : List ℕ = id ∷ length content ∷ content in
    let i : get_or (before ++ w) (length before) 0 ≡ id = get_or-append_seam before id (length content ∷ content) 0 in
    let n : get_or (before ++ w) (length before + 1) 0 ≡ length content = get_or-append-add before w 1 0 in
    let x : get_or (before ++ w) (length before + 2) 0 ≡ get_or content 0 0 = get_or-append-add before w 2 0 in
    stands (before ++ w) (length before) (omega (arith, length-append before w)) (λ e. rw n (extended (sym i ∙ e))) ∙ rw (i, n, x)

-- A string of n octets that walks to its end, from a place on, over some elements.
pub record Written (s : List ℕ) (from n : ℕ) (es : List Element) : Type 0 where
  pub walks : walk s from ≡ walked es
  pub long : length s ≡ n
  pub within : from ≤ n

pub written_none : (s : List ℕ) {n : ℕ} → length s ≡ n → Written s n n []
written_none s {n} e = record { walks = walk_ends s n (ends s n (omega arith)); long = e; within = omega arith }

-- one element more, with a content of m octets
pub written_more : {s : List ℕ} {from n : ℕ} {es : List Element} → Written s from n es → (id m : ℕ) (content : List ℕ) (p : Part)
    → (length content ≡ m) × (id ≡ 255 → 0 < m) × (p.start ≡ n + 2) × (p.end ≡ p.start + m)
    → Written (s ++ (id ∷ m ∷ content)) from p.end (es ++ (element id content n p ∷ []))
written_more {s} {from} {n} {es} w id m content p (long, extended, start, end) =
    let t : List ℕ = id ∷ length content ∷ content in
    let next : ℕ = length s + 2 + length content in
    let e : Element = element id content (length s) (record { start = length s + 2; end = next }) in
    let h : id ≡ 255 → 0 < length content = λ e. omega (arith, extended e) in
    let whole : length (s ++ t) ≡ next = length-append s t ∙ omega arith in
    rw (end, start, ← long, ← w.long) (record {
      walks = walk_append s t from es w.walks (omega (arith, w.long, w.within))
          ∙ ap (λ (r : Walk). es then r) (walk_stands (s ++ t) (length s) e (written_stands s content id h))
          ∙ ap (λ (r : Walk). es then (e ∷ []) then r) (walk_ends (s ++ t) next (ends (s ++ t) next (omega arith)));
      long = whole;
      within = omega (arith, w.long, w.within);
    })
