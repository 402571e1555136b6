-- The parts of a string of octets: their octets, and where they lie.
use Rattle.std.specs.Prelude.{ℕ, ◌+◌, ◌-◌, ◌≤◌, List, take, drop}
use Rattle.elements.specs.declared.Element.{Element}
use Rattle.elements.specs.declared.Part.{Part}

-- the octets of a part
abbrev pub content : List ℕ → Part → List ℕ
content s p = take (p.end - p.start) (drop p.start s)

-- the part of a body that an element's content occupies
abbrev pub part_of : Element → Part
part_of e = record { start = e.start; end = e.next }

-- in a string of n octets, a part of so many octets at least
pub record Lies (least n : ℕ) (p : Part) : Type 0 where
  pub long : p.start + least ≤ p.end
  pub within : p.end ≤ n
