-- The walk does not read an element's content, but for its extension ID.
use mathlib.Core.Path.{◌≡◌, refl, sym, ap, ◌∙◌, subst}
use mathlib.Core.Bool.{Bool, true, false}
use mathlib.Core.List.{List, [], ◌∷◌}
use mathlib.Core.Logic.{◌⊎◌, inl, inr, ⊎_elim}
use Prim.Native.Nat.{ℕ, ◌+◌, ◌<◌, ◌≤◌}
use native.Mathlib.Omega.{arith}
use borrow.Author.Tests.{eq-eqb}
use lib.Dec.{ltb}
use lib.ListN.{length, get_or}
use Rattle.std.specs.Prelude.{Option, Some, Result, Ok, Err, if◌then◌else◌}
use Rattle.octets.specs.Numbers.{le}
use Rattle.octets.proofs.Numbers.{le_ext}
use Rattle.elements.specs.declared.Element.{Element}
use Rattle.elements.specs.declared.Met.TheVariants.{Stands, End, Failed}
use Rattle.scan.specs.declared.Kind.TheVariants.{Mic}
use Rattle.elements.specs.declared.Part.{Part}
use Rattle.scan.specs.declared.Times.{Times}
use Rattle.scan.specs.declared.Times.TheVariants.{Never, One, More}
use Rattle.scan.specs.declared.Places.{Places}
use Rattle.elements.specs.declared.FailedAt.{FailedAt}
use Rattle.elements.specs.Body.{body_of}
use Rattle.elements.specs.Lies.{part_of}
use Rattle.elements.specs.Met.{met_at}
use Rattle.elements.specs.Walk.{Walk, walked, failed_at, ◌then◌, walk, walk_body}
use Rattle.scan.specs.Scan.{extended_kind, kind_by, kind_of, is_kind, of_kind, times_of, places_of, scan_by, scan_of}
use Rattle.elements.proofs.Standing.{Stood, stood, element_same}
use Rattle.elements.proofs.Walk.{walk_stands, walk_ends, walk_fails, walk_induction, Each, EachOf, each_stood}
use Rattle.scan.proofs.Scanning.{same_kind}

-- Two strings, as long as each other, that differ at most in a part.
pub record SameBut (p : Part) (s t : List ℕ) : Type 0 where
  pub long : length s ≡ length t
  pub before : (i : ℕ) → i < p.start → get_or s i 0 ≡ get_or t i 0
  pub after : (i : ℕ) → p.end ≤ i → get_or s i 0 ≡ get_or t i 0

-- The part lies in an element's content, past the extension ID.
pub record Inside (p : Part) (e : Element) : Type 0 where
  pub start : e.start ≤ p.start
  pub next : p.end ≤ e.next
  pub extended : e.id ≡ 255 → e.start < p.start

-- something of one of some elements, and of one of a walk that comes to its end
abbrev pub SomeIn : (Element → Type 0) → List Element → Type 0
SomeIn P [] = ⊥
SomeIn P (e ∷ es) = P e ⊎ SomeIn P es

abbrev pub SomeOf : (Element → Type 0) → Walk → Type 0
SomeOf P (walked es) = SomeIn P es
SomeOf P (failed_at place) = ⊥

abbrev pub SameFrom : ℕ → List ℕ → List ℕ → Type 0
SameFrom at s t = (i : ℕ) → at ≤ i → get_or s i 0 ≡ get_or t i 0

module _ (s t : List ℕ) (l : length s ≡ length t) where
  met_same : (at : ℕ) → get_or s at 0 ≡ get_or t at 0 → get_or s (at + 1) 0 ≡ get_or t (at + 1) 0
      → (get_or t at 0 ≡ 255 → get_or s (at + 2) 0 ≡ get_or t (at + 2) 0) → met_at t at ≡ met_at s at
  met_same at i n x = sym (rw (element_same s t at i n x, l, i, n))

  -- The walk from a place reads nothing before it.
  pub same_from : (at : ℕ) → SameFrom at s t → walk s at ≡ walk t at
  same_from = walk_induction s (λ at w. SameFrom at s t → w ≡ walk t at) at_end at_failure at_element
    where
      met : (at : ℕ) → SameFrom at s t → met_at t at ≡ met_at s at
      met at h = met_same at (h at (omega arith)) (h (at + 1) (omega arith)) (λ e. h (at + 2) (omega arith))

      at_end : (at : ℕ) → met_at s at ≡ End → SameFrom at s t → walked [] ≡ walk t at
      at_end at q h = sym (walk_ends t at (met at h ∙ q))

      at_failure : (at : ℕ) → met_at s at ≡ Failed → SameFrom at s t → failed_at at ≡ walk t at
      at_failure at q h = sym (walk_fails t at (met at h ∙ q))

      at_element : (at : ℕ) (e : Element) → met_at s at ≡ Stands e → (SameFrom e.next s t → walk s e.next ≡ walk t e.next)
          → SameFrom at s t → (e ∷ []) then walk s e.next ≡ walk t at
      at_element at e q ih h =
          let st = stood s at e q in
          ap (λ (w : Walk). (e ∷ []) then w) (ih (λ i k. h i (omega arith))) ∙ sym (walk_stands t at e (met at h ∙ q))

-- along the walk: t has it too from the place on, and the part starts after an ID and a length there
record Passed (p : Part) (t : List ℕ) (at : ℕ) (w : Walk) : Type 0 where
  head : at + 2 ≤ p.start
  same : w ≡ walk t at

module _ (p : Part) (s t : List ℕ) (b : SameBut p s t) where
  passed : (at : ℕ) → SomeOf (Inside p) (walk s at) → Passed p t at (walk s at)
  passed = walk_induction s (λ at w. SomeOf (Inside p) w → Passed p t at w) (λ at q h. absurd h) (λ at q h. absurd h) at_element
    where
      split : (e : Element) (w : Walk) → SomeOf (Inside p) ((e ∷ []) then w) → Inside p e ⊎ SomeOf (Inside p) w
      split e (walked es) h = h
      split e (failed_at place) h = absurd h

      one_more : (at : ℕ) (e : Element) → met_at s at ≡ Stands e → at + 2 ≤ p.start → (e.id ≡ 255 → at + 2 < p.start)
          → walk s e.next ≡ walk t e.next → Passed p t at ((e ∷ []) then walk s e.next)
      one_more at e q h x w =
          let st = stood s at e q in
          let i : e.id ≡ get_or s at 0 = ap (λ (e : Element). e.id) st.is in
          let j = b.before at (omega arith) in
          let same = met_same s t b.long at j (b.before (at + 1) (omega arith)) (λ k. b.before (at + 2) (x (i ∙ j ∙ k))) in
          record { head = h; same = ap (λ (w : Walk). (e ∷ []) then w) w ∙ sym (walk_stands t at e (same ∙ q)) }

      here : (at : ℕ) (e : Element) → met_at s at ≡ Stands e → Inside p e → Passed p t at ((e ∷ []) then walk s e.next)
      here at e q k =
          let st = stood s at e q in
          one_more at e q (omega arith) (λ x. omega (arith, k.extended x)) (same_from s t b.long e.next (λ i h. b.after i (omega arith)))

      later : (at : ℕ) (e : Element) → met_at s at ≡ Stands e → Passed p t e.next (walk s e.next)
          → Passed p t at ((e ∷ []) then walk s e.next)
      later at e q k =
          let st = stood s at e q in
          one_more at e q (omega (arith, k.head)) (λ x. omega (arith, k.head, st.extended x)) k.same

      at_element : (at : ℕ) (e : Element) → met_at s at ≡ Stands e → (SomeOf (Inside p) (walk s e.next) → Passed p t e.next (walk s e.next))
          → SomeOf (Inside p) ((e ∷ []) then walk s e.next) → Passed p t at ((e ∷ []) then walk s e.next)
      at_element at e q ih h = ⊎_elim (here at e q) (λ k. later at e q (ih k)) (split e (walk s e.next) h)

  -- Strings that differ only in the content of one element, and not in its extension ID, have one walk.
  pub same_walk : (at : ℕ) → SomeOf (Inside p) (walk s at) → walk s at ≡ walk t at
  same_walk at h = (passed at h).same

-- Two strings are read as the same body.
pub record SameRead (s t : List ℕ) : Type 0 where
  pub opens : body_of s ≡ body_of t
  pub walks : walk_body s ≡ walk_body t
  pub scans : scan_of s ≡ scan_of t

pub same_read : (p : Part) (s t : List ℕ) → SameBut p s t → SomeOf (Inside p) (walk_body s) → SameRead s t
unfolding body_of walk_body scan_of
same_read p s t b h = read (body (ltb (length s) 6) (ltb 1024 (length s)) h)
  where
    body : (c d : Bool) → SomeOf (Inside p) (if c then failed_at 0 else (if d then failed_at 0 else walk s 6)) → Passed p t 6 (walk s 6)
    body true d h = absurd h
    body false true h = absurd h
    body false false h = passed p s t b 6 h

    read : Passed p t 6 (walk s 6) → SameRead s t
    read r =
        let two : (at : ℕ) → at ≤ 4 → le 2 s at ≡ le 2 t at = λ at k. le_ext 2 s t at at (λ i m. b.before (at + i) (omega (arith, r.head))) in
        let w : walk_body s ≡ walk_body t = rw (r.same, b.long) in
        record { opens = rw (b.long, two 0 (omega arith), two 2 (omega arith), two 4 (omega arith)); walks = w; scans = ap scan_by w }

-- the part of which is told lies inside an element
abbrev pub InsideIf : Walk → Times → Type 0
InsideIf w Never = Unit {0}
InsideIf w (One p) = SomeOf (Inside p) w
InsideIf w (More p) = SomeOf (Inside p) w

-- no extended element is a MIC
extended_no_mic : (x : ℕ) → extended_kind x ≡ Mic → ⊥
extended_no_mic x e = grind arith

plain_mic : (s : List ℕ) (e : Element) → Stood s e.place e → kind_of e ≡ Mic → e.id ≡ 255 → ⊥
plain_mic s e st k h =
    let i : get_or s e.place 0 ≡ 255 = sym (ap (λ (e : Element). e.id) st.is) ∙ h in
    let x : e.extension ≡ Some (get_or s (e.place + 2) 0) = ap (λ (e : Element). e.extension) st.is ∙ rw (eq-eqb (get_or s e.place 0) 255 i) in
    extended_no_mic (get_or s (e.place + 2) 0) (sym (ap (λ (x : Option ℕ). kind_by e.id x) x) ∙ k)

mics_inside : (s : List ℕ) (es : List Element) → Each (λ e. Stood s e.place e) es → InsideIf (walked es) (times_of (of_kind Mic es))
mics_inside s [] h = tt
mics_inside s (e ∷ es) h = go (is_kind (kind_of e) Mic) refl (mics_inside s es h.1)
  where
    first : (ds : List Element) → Inside (part_of e) e → InsideIf (walked (e ∷ es)) (times_of (e ∷ ds))
    first [] i = inl i
    first (d ∷ ds) i = inl i

    later : (t : Times) → InsideIf (walked es) t → InsideIf (walked (e ∷ es)) t
    later Never i = tt
    later (One p) i = inr i
    later (More p) i = inr i

    go : (b : Bool) → is_kind (kind_of e) Mic ≡ b → InsideIf (walked es) (times_of (of_kind Mic es))
        → InsideIf (walked (e ∷ es)) (times_of (if b then e ∷ of_kind Mic es else of_kind Mic es))
    go true q i =
        first (of_kind Mic es) (record {
          start = omega arith;
          next = omega arith;
          extended = λ x. absurd (plain_mic s e h.0 (same_kind (kind_of e) Mic q) x);
        })
    go false q i = later (times_of (of_kind Mic es)) i

abbrev MicInside : Walk → Result Places FailedAt → Type 0
MicInside w (Ok p) = InsideIf w p.mic
MicInside w (Err place) = Unit {0}

-- A MIC that the scan finds is the content of an element of the walk.
pub mic_inside : (s : List ℕ) (p : Places) → scan_of s ≡ Ok p → InsideIf (walk_body s) p.mic
unfolding scan_of walk_body places_of
mic_inside s p q = subst (MicInside (walk_body s)) q (go (ltb (length s) 6) (ltb 1024 (length s)) (walk s 6) (each_stood s 6))
  where
    found : (w : Walk) → EachOf (λ e. Stood s e.place e) w → MicInside w (scan_by w)
    found (walked es) h = mics_inside s es h
    found (failed_at place) h = tt

    go : (a b : Bool) (w : Walk) → EachOf (λ e. Stood s e.place e) w
        → MicInside (if a then failed_at 0 else (if b then failed_at 0 else w)) (scan_by (if a then failed_at 0 else (if b then failed_at 0 else w)))
    go true b w h = tt
    go false true w h = tt
    go false false w h = found w h
