-- The elements of a body as they come, one after another.
use Rattle.std.specs.Prelude.{◌-◌, ◌≡◌, Option, Some, None, Result, Ok, Err, length}
use Rattle.std.specs.Iterator.{Count, at_most}
use Rattle.elements.specs.declared.Element.{Element}
use Rattle.elements.specs.declared.FailedAt.{FailedAt}
use Rattle.elements.specs.declared.Elements.{Elements}
use Rattle.elements.specs.declared.Met.TheVariants.{Stands, End, Failed}
use Rattle.elements.specs.Met.{met_at}

-- one step of the walk: an element, and on at the place after it; the place of a failure, and nothing after it; or the end
abbrev pub Comes : Elements → Option (Result Element FailedAt) → Elements → Type 0
Comes s (Some (Ok e)) t = (met_at s.body.now s.at ≡ Stands e) × (t ≡ record s { at = e.next })
Comes s (Some (Err f)) t = (met_at s.body.now s.at ≡ Failed) × (f ≡ record { 0 = s.at }) × (t ≡ record s { at = length s.body.now })
Comes s None t = (met_at s.body.now s.at ≡ End) × (t ≡ s)

-- no more of them come than octets are left
abbrev pub octets_left : Elements → Count
octets_left s = at_most (length s.body.now - s.at)
