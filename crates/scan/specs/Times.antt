-- How many elements of a kind there are, and the content of the first: what a frame's definition asks of it.
use Rattle.std.specs.Prelude.{Bool, true, false, Option, None, Some}
use Rattle.elements.specs.declared.Part.{Part}
use Rattle.scan.specs.declared.Times.{Times}
use Rattle.scan.specs.declared.Times.TheVariants.{Never, One, More}

-- an element that is there exactly once
abbrev pub once : Times → Option Part
once Never = None
once (One part) = Some part
once (More first) = None

-- an element that is there at most once: its content, or that it is not there
abbrev pub at_most_once : Times → Option (Option Part)
at_most_once Never = Some None
at_most_once (One part) = Some (Some part)
at_most_once (More part) = None

-- an element that is not there
abbrev pub is_never : Times → Bool
is_never Never = true
is_never (One part) = false
is_never (More part) = false
