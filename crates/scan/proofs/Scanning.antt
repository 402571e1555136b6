-- Laws of the scan: one element more, how far it has come, and that what it finds lies within the body.
use mathlib.Core.Path.{◌≡◌, refl, sym, ap, ◌∙◌, subst}
use mathlib.Core.Bool.{Bool, true, false}
use mathlib.Core.List.{List, [], ◌∷◌, ◌++◌, append-nil}
use Prim.Native.Nat.{ℕ, ◌≤◌}
use native.Mathlib.Omega.{arith}
use borrow.Author.Tests.{eqb-true}
use lib.Dec.{ltb, eqb}
use lib.ListN.{length, get_or}
use Rattle.std.proofs.lemmas.List.Elements.{filter-append}
use Rattle.std.specs.Prelude.{Option, None, Ok, if◌then◌else◌}
use Rattle.elements.specs.declared.Element.{Element}
use Rattle.elements.specs.declared.Part.{Part}
use Rattle.elements.specs.declared.Met.TheVariants.{Stands, End, Failed}
use Rattle.scan.specs.declared.Kind.{Kind}
use Rattle.scan.specs.declared.Kind.TheVariants.{Rsne, Timeout, Mic, Fragment, Parameters, Wrapped, Skipped}
use Rattle.scan.specs.declared.Times.{Times}
use Rattle.scan.specs.declared.Places.{Places}
use Rattle.elements.specs.Met.{met_at}
use Rattle.elements.specs.Walk.{Walk, walked, failed_at, ◌then◌, walk, walk_body}
use Rattle.scan.specs.Scan.{plain_kind, kind_by, kind_of, is_kind, of_kind, times_of, places_of, scan_by, scan_of}
use Rattle.scan.specs.Noting.{seen_of, marked}
use Rattle.elements.specs.Lies.{Lies, part_of}
use Rattle.scan.specs.Within.{LiesIf, Within}
use Rattle.elements.proofs.Standing.{Stood}
use Rattle.elements.proofs.Walk.{then_none, then_then, walk_stands, walk_ends, walk_fails, Each, EachOf, each_stood}

-- one more at the end of those of a kind
times_snoc : (es : List Element) (e : Element) → times_of (es ++ (e ∷ [])) ≡ seen_of (times_of es) (part_of e)
times_snoc [] e = refl
times_snoc (d ∷ []) e = refl
times_snoc (d ∷ d' ∷ es) e = refl

-- an element of the kind k, where those of the kind l are told
abbrev mark_of : Kind → Kind → Times → Part → Times
mark_of k l t content = if is_kind k l then seen_of t content else t

times_more : (k : Kind) (es : List Element) (e : Element) → mark_of (kind_of e) k (times_of (of_kind k es)) (part_of e) ≡ times_of (of_kind k (es ++ (e ∷ [])))
times_more k es e = go (is_kind (kind_of e) k) ∙ ap times_of (sym (filter-append (λ (e : Element). is_kind (kind_of e) k) es (e ∷ [])))
  where
    go : (b : Bool) → (if b then seen_of (times_of (of_kind k es)) (part_of e) else times_of (of_kind k es)) ≡ times_of (of_kind k es ++ (if b then e ∷ [] else []))
    go true = sym (times_snoc (of_kind k es) e)
    go false = ap times_of (sym (append-nil (of_kind k es)))

-- each of the six by itself
marked_each : (k : Kind) (p : Places) (content : Part) → marked k p content ≡ record {
  rsne = mark_of k Rsne p.rsne content;
  timeout = mark_of k Timeout p.timeout content;
  mic = mark_of k Mic p.mic content;
  fragment = mark_of k Fragment p.fragment content;
  parameters = mark_of k Parameters p.parameters content;
  wrapped = mark_of k Wrapped p.wrapped content;
}
marked_each Rsne p content = refl
marked_each Timeout p content = refl
marked_each Mic p content = refl
marked_each Fragment p content = refl
marked_each Parameters p content = refl
marked_each Wrapped p content = refl
marked_each Skipped p content = refl

places_more : (es : List Element) (e : Element) → marked (kind_of e) (places_of es) (part_of e) ≡ places_of (es ++ (e ∷ []))
unfolding places_of
places_more es e =
    marked_each (kind_of e) (places_of es) (part_of e)
    ∙ rw (times_more Rsne es e, times_more Timeout es e, times_more Mic es e, times_more Fragment es e, times_more Parameters es e, times_more Wrapped es e)

-- How far the scan has come: the walk from the start on is `seen` and then the walk from `at`, and p has the places of `seen`.
pub record Scanned (s : List ℕ) (start : ℕ) (p : Places) (at : ℕ) : Type 0 where
  pub seen : List Element
  pub so_far : walk s start ≡ seen then walk s at
  pub marks : p ≡ places_of seen

pub scanned_none : (s : List ℕ) (start : ℕ) → Scanned s start (places_of []) start
scanned_none s start = record { seen = []; so_far = sym (then_none (walk s start)); marks = refl }

module _ {s : List ℕ} {start : ℕ} {p : Places} {at : ℕ} (g : Scanned s start p at) where
  -- one element more
  pub scanned_more : (e : Element) → met_at s at ≡ Stands e → Scanned s start (marked (kind_of e) p (part_of e)) e.next
  scanned_more e h = record {
    seen = g.seen ++ (e ∷ []);
    so_far = g.so_far ∙ ap (λ (w : Walk). g.seen then w) (walk_stands s at e h) ∙ sym (then_then g.seen (e ∷ []) (walk s e.next));
    marks = ap (λ (p : Places). marked (kind_of e) p (part_of e)) g.marks ∙ places_more g.seen e;
  }

  pub scanned_all : met_at s at ≡ End → scan_by (walk s start) ≡ Ok p
  scanned_all h =
      ap scan_by (g.so_far ∙ ap (λ (w : Walk). g.seen then w) (walk_ends s at h) ∙ ap walked (append-nil g.seen)) ∙ ap Ok (sym g.marks)

  pub scanned_failed : met_at s at ≡ Failed → scan_by (walk s start) ≡ scan_by (failed_at at)
  scanned_failed h = ap scan_by (g.so_far ∙ ap (λ (w : Walk). g.seen then w) (walk_fails s at h))

pub in_body : (s : List ℕ) → 6 ≤ length s → length s ≤ 1024 → scan_of s ≡ scan_by (walk s 6)
unfolding scan_of walk_body
in_body s h k = grind arith

-- the fewest octets that an element's content has, by its kind
abbrev fewest : Kind → ℕ
fewest Parameters = 1
fewest Wrapped = 1
fewest k = 0

fewest_one : (k : Kind) → fewest k ≤ 1
fewest_one Parameters = omega arith
fewest_one Wrapped = omega arith
fewest_one k = omega arith

plain_fewest : (id : ℕ) → fewest (plain_kind id) ≡ 0
plain_fewest id = grind arith

element_lies : (s : List ℕ) (e : Element) → Stood s e.place e → Lies (fewest (kind_of e)) (length s) (part_of e)
element_lies s e st = record { long = omega (arith, long (eqb (get_or s e.place 0) 255) refl); within = st.within }
  where
    long : (b : Bool) → eqb (get_or s e.place 0) 255 ≡ b → fewest (kind_of e) ≤ e.length
    long true q =
        let i : e.id ≡ get_or s e.place 0 = ap (λ (e : Element). e.id) st.is in
        omega (arith, st.extended (i ∙ eqb-true (get_or s e.place 0) 255 q), fewest_one (kind_of e))
    long false q =
        let x : e.extension ≡ None = ap (λ (e : Element). e.extension) st.is ∙ rw q in
        let k : kind_of e ≡ plain_kind e.id = ap (λ (x : Option ℕ). kind_by e.id x) x in
        omega (arith, ap fewest k ∙ plain_fewest e.id)

pub same_kind : (k l : Kind) → is_kind k l ≡ true → k ≡ l
same_kind Rsne Rsne e = refl
same_kind Timeout Timeout e = refl
same_kind Mic Mic e = refl
same_kind Fragment Fragment e = refl
same_kind Parameters Parameters e = refl
same_kind Wrapped Wrapped e = refl
same_kind Skipped Skipped e = refl
same_kind k l e = cc

kind_lies : (s : List ℕ) (k : Kind) (es : List Element) → Each (λ e. Stood s e.place e) es
    → Each (λ e. Lies (fewest k) (length s) (part_of e)) (of_kind k es)
kind_lies s k [] h = tt
kind_lies s k (e ∷ es) h = go (is_kind (kind_of e) k) refl (kind_lies s k es h.1)
  where
    go : (b : Bool) → is_kind (kind_of e) k ≡ b → Each (λ e. Lies (fewest k) (length s) (part_of e)) (of_kind k es)
        → Each (λ e. Lies (fewest k) (length s) (part_of e)) (if b then e ∷ of_kind k es else of_kind k es)
    go true q r =
        (subst (λ (k : Kind). Lies (fewest k) (length s) (part_of e)) (same_kind (kind_of e) k q) (element_lies s e h.0), r)
    go false q r = r

times_lie : (least n : ℕ) (es : List Element) → Each (λ e. Lies least n (part_of e)) es → LiesIf least n (times_of es)
times_lie least n [] h = tt
times_lie least n (e ∷ []) h = h.0
times_lie least n (e ∷ f ∷ es) h = h.0

within_walk : (s : List ℕ) (es : List Element) → Each (λ e. Stood s e.place e) es → Within (length s) (places_of es)
unfolding places_of
within_walk s es h = record {
  rsne = of Rsne;
  timeout = of Timeout;
  mic = of Mic;
  fragment = of Fragment;
  parameters = of Parameters;
  wrapped = of Wrapped;
}
  where
    of : (k : Kind) → LiesIf (fewest k) (length s) (times_of (of_kind k es))
    of k = times_lie (fewest k) (length s) (of_kind k es) (kind_lies s k es h)

-- What the scan finds lies within the body.
pub within : (s : List ℕ) (p : Places) → scan_of s ≡ Ok p → Within (length s) p
unfolding scan_of walk_body
within s p q = go (ltb (length s) 6) (ltb 1024 (length s)) (walk s 6) (each_stood s 6) q
  where
    go : (a b : Bool) (w : Walk) → EachOf (λ e. Stood s e.place e) w
        → scan_by (if a then failed_at 0 else (if b then failed_at 0 else w)) ≡ Ok p → Within (length s) p
    go true b w h q = cc
    go false true w h q = cc
    go false false (walked es) h q = let same : places_of es ≡ p = cc in subst (Within (length s)) same (within_walk s es h)
    go false false (failed_at place) h q = cc
