-- The walk over the elements of a body.
use Rattle.std.specs.Prelude.{ℕ, zero, suc, List, [], ◌∷◌, ◌++◌, ltb, length, if◌then◌else◌}
use Rattle.elements.specs.declared.Element.{Element}
use Rattle.elements.specs.declared.Met.{Met}
use Rattle.elements.specs.declared.Met.TheVariants.{Stands, End, Failed}
use Rattle.elements.specs.Met.{met_at}

-- what a walk comes to: the elements, or the place of the element that it failed at
pub data Walk : Type 0 where
  walked : List Element → Walk
  failed_at : ℕ → Walk

infixr 60 ◌then◌
-- some elements, and then the rest of the walk
abbrev pub ◌then◌ : List Element → Walk → Walk
es then walked fs = walked (es ++ fs)
es then failed_at place = failed_at place

-- the walk at a place, by what stands there; `go` is the walk from a later place
abbrev pub onward : (ℕ → Walk) → ℕ → Met → Walk
onward go at (Stands e) = (e ∷ []) then go e.next
onward go at End = walked []
onward go at Failed = failed_at at

-- the walk from a place, of so many steps at most
unfoldable pub walk_for : ℕ → List ℕ → ℕ → Walk
walk_for zero s at = failed_at at
walk_for (suc more) s at = onward (walk_for more s) at (met_at s at)

-- The walk from a place to the end. Each element takes two octets at least, so there are fewer steps than octets, and one more for the end.
unfoldable pub walk : List ℕ → ℕ → Walk
unfolding walk_for
walk s at = walk_for (suc (length s)) s at

-- the walk of a body: its elements begin after six octets
unfoldable pub walk_body : List ℕ → Walk
unfolding walk
walk_body s =
    if ltb (length s) 6 then failed_at 0
    else (if ltb 1024 (length s) then failed_at 0
    else walk s 6)
