-- An element: ID, length, content. For ID 255 the content's first octet is the extension ID.
use Rattle.std.specs.Prelude.{ℕ, ◌+◌, ◌-◌, ◌&&◌, List, Some, None, ltb, leb, eqb, length, get_or, if◌then◌else◌}
use Rattle.elements.specs.declared.Element.{Element}
use Rattle.elements.specs.declared.Met.{Met}
use Rattle.elements.specs.declared.Met.TheVariants.{Stands, End, Failed}

-- the element whose ID stands at a place
abbrev pub element_at : List ℕ → ℕ → Element
element_at s at = record {
  id = get_or s at 0;
  extension = if eqb (get_or s at 0) 255 then Some (get_or s (at + 2) 0) else None;
  place = at;
  start = at + 2;
  length = get_or s (at + 1) 0;
  next = at + 2 + get_or s (at + 1) 0;
}

-- The walk ends where nothing is left. It fails if a single octet is left over, the element runs past the end, or ID 255 has length 0.
abbrev pub met_at : List ℕ → ℕ → Met
met_at s at =
    if leb (length s) at then End
    else (if eqb (length s - at) 1 then Failed
    else (if ltb (length s - (at + 2)) (get_or s (at + 1) 0) then Failed
    else (if eqb (get_or s at 0) 255 && eqb (get_or s (at + 1) 0) 0 then Failed
    else Stands (element_at s at))))
