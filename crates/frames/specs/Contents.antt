-- What the frames' definitions have in common: steps that find something or nothing, and what the elements of a body say.
use Rattle.std.specs.Prelude.{ℕ, ◌+◌, Bool, true, false, List, Option, None, Some}
use Rattle.octets.specs.Maybe.{◌>>=◌}
use Rattle.units.specs.declared.Seconds.{Seconds}
use Rattle.elements.specs.declared.Part.{Part}
use Rattle.elements.specs.Lies.{content}
use Rattle.rsne.specs.declared.Rsne.{Rsne}
use Rattle.layouts.specs.Timeout.{timeout_of}

-- a part of a part that starts at a place, as a part of the whole
abbrev pub shifted : ℕ → Part → Part
shifted at p = record { start = at + p.start; end = at + p.end }

-- what follows the extension ID
abbrev pub extended : Part → Part
extended p = record { start = p.start + 1; end = p.end }

-- a test that is passed
abbrev pub holds : Bool → Option (Unit {0})
holds true = Some tt
holds false = None

-- an RSNE whose content is a part of the body, its PMKIDs told as a part of the body
abbrev pub rsne_from : Part → Rsne → Rsne
rsne_from at r = record r { pmkids = shifted at.start r.pmkids }

-- the lifetime that a Timeout Interval asks for, where there is one
abbrev pub lifetime_at : List ℕ → Option Part → Option (Option Seconds)
lifetime_at body None = Some None
lifetime_at body (Some at) = do
  seconds ← timeout_of (content body at)
  Some (Some seconds)
