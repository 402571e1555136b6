-- The first frame. Step 1 refuses it: walk fails; a Fragment; RSNE, Timeout, PASN Parameters or Wrapped Data twice; RSNE or PASN Parameters missing; one of
-- these ill-formed; wrapped format 4 or more; Wrapped Data present with format 0 or absent with 1 to 3; B1 clear. The status is ignored, and so is MIC.
use Rattle.std.specs.Prelude.{ℕ, Bool, not, List, Option, None, Some, eqb, ltb}
use Rattle.std.specs.Result.{result_ok}
use Rattle.octets.specs.Maybe.{◌>>=◌}
use Rattle.elements.specs.declared.Part.{Part}
use Rattle.elements.specs.Lies.{Lies, content}
use Rattle.scan.specs.Scan.{scan_of}
use Rattle.scan.specs.Times.{once, at_most_once, is_never}
use Rattle.parameters.specs.declared.Side.TheVariants.{Station}
use Rattle.parameters.specs.Parameters.{parameters_of}
use Rattle.rsne.specs.Rsne.{rsne_of}
use Rattle.frames.specs.declared.first.Facts.{Facts}
use Rattle.frames.specs.Contents.{shifted, extended, holds, rsne_from, lifetime_at}

-- whether Wrapped Data is there as the format says
abbrev pub is_wrapped : ℕ → Option Part → Bool
is_wrapped format None = eqb format 0
is_wrapped format (Some at) = not (eqb format 0)

unfoldable pub first_of : List ℕ → Option Facts
first_of body = do
  places ← result_ok (scan_of body)
  _ ← holds (is_never places.fragment)
  at_rsne ← once places.rsne
  at_timeout ← at_most_once places.timeout
  at_parameters ← once places.parameters
  at_wrapped ← at_most_once places.wrapped
  rsne ← rsne_of (content body at_rsne)
  lifetime ← lifetime_at body at_timeout
  parameters ← parameters_of Station (content body (extended at_parameters))
  _ ← holds (ltb parameters.format 4)
  _ ← holds (is_wrapped parameters.format at_wrapped)
  offer ← parameters.offer
  Some (record {
    rsne = rsne_from at_rsne rsne;
    lifetime = lifetime;
    format = parameters.format;
    group = offer.group;
    key = shifted (extended at_parameters).start offer.key;
  })

-- the parts that a first frame tells lie within n octets
pub record FactsLie (n : ℕ) (facts : Facts) : Type 0 where
  pub pmkids : Lies 0 n facts.rsne.pmkids
  pub key : Lies 0 n facts.key
