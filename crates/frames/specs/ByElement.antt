-- The steps of a frame's definition, gathered by element: what each says, by how often it stands in a body.
use Rattle.std.specs.Prelude.{ℕ, ◌-◌, List, Option, Some, is_none, eqb, ltb}
use Rattle.octets.specs.Maybe.{◌>>=◌}
use Rattle.units.specs.declared.Seconds.{Seconds}
use Rattle.elements.specs.declared.Part.{Part}
use Rattle.elements.specs.Lies.{content}
use Rattle.scan.specs.declared.Times.{Times}
use Rattle.scan.specs.Times.{once, at_most_once}
use Rattle.parameters.specs.declared.Offer.{Offer}
use Rattle.parameters.specs.declared.Side.TheVariants.{Station}
use Rattle.parameters.specs.Parameters.{parameters_of}
use Rattle.rsne.specs.declared.Rsne.{Rsne}
use Rattle.rsne.specs.Rsne.{rsne_of}
use Rattle.frames.specs.Contents.{shifted, extended, holds, rsne_from, lifetime_at}
use Rattle.frames.specs.First.{is_wrapped}

abbrev pub rsne_in : List ℕ → Times → Option Rsne
rsne_in body times = do
  at ← once times
  rsne ← rsne_of (content body at)
  Some (rsne_from at rsne)

abbrev pub lifetime_in : List ℕ → Times → Option (Option Seconds)
lifetime_in body times = do
  at ← at_most_once times
  lifetime_at body at

-- PASN Parameters of a first frame, which offer a key: the format, and the offer with its key as a part of the body
abbrev pub offered_in : List ℕ → Times → Option (ℕ × Offer)
offered_in body times = do
  at ← once times
  parameters ← parameters_of Station (content body (extended at))
  offer ← parameters.offer
  Some (parameters.format, record offer { key = shifted (extended at).start offer.key })

-- Wrapped Data at most once, the format not reserved, and there as it says
abbrev pub wrapped_in : ℕ → Times → Option (Unit {0})
wrapped_in format times = do
  at ← at_most_once times
  _ ← holds (ltb format 4)
  holds (is_wrapped format at)

-- PASN Parameters of a third frame, which say nothing: B0 and B1 clear, format 0
abbrev pub quiet_in : List ℕ → Times → Option (Unit {0})
quiet_in body times = do
  at ← once times
  parameters ← parameters_of Station (content body (extended at))
  _ ← holds (is_none parameters.comeback)
  _ ← holds (is_none parameters.offer)
  holds (eqb parameters.format 0)

-- the one MIC, of n octets
abbrev pub mic_in : Times → ℕ → Option Part
mic_in times n = do
  at ← once times
  _ ← holds (eqb (at.end - at.start) n)
  Some at
