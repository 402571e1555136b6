-- A second frame as its reader takes it, by the layouts of every frame. None unless the string is a body that walks to its end, with RSNE, Timeout
-- Interval, PASN Parameters (a group and a key, no comeback information) and MIC once each, well-formed, and with no Fragment and no Wrapped Data.
use Rattle.std.specs.Prelude.{ℕ, List, Option, Some, is_none}
use Rattle.std.specs.Result.{result_ok}
use Rattle.octets.specs.Maybe.{◌>>=◌}
use Rattle.units.specs.declared.Seconds.{Seconds}
use Rattle.elements.specs.Body.{body_of}
use Rattle.elements.specs.Lies.{content}
use Rattle.scan.specs.Scan.{scan_of}
use Rattle.scan.specs.Times.{once, is_never}
use Rattle.suites.specs.declared.Suite.{Suite}
use Rattle.parameters.specs.declared.Side.TheVariants.{AccessPoint}
use Rattle.parameters.specs.Parameters.{parameters_of}
use Rattle.rsne.specs.Rsne.{rsne_of}
use Rattle.layouts.specs.Timeout.{timeout_of}
use Rattle.frames.specs.Contents.{extended, holds}

-- the PMKIDs, the key and the MIC are their octets
pub record Second : Type 0 where
  pub algorithm : ℕ
  pub transaction : ℕ
  pub status : ℕ
  pub group_cipher : Suite
  pub pairwise : Option Suite
  pub akm : Option Suite
  pub capabilities : ℕ
  pub pmkids : List ℕ
  pub management : Suite
  pub lifetime : Seconds
  pub format : ℕ
  pub group : ℕ
  pub key : List ℕ
  pub mic : List ℕ

unfoldable pub second_of : List ℕ → Option Second
second_of body = do
  header ← body_of body
  places ← result_ok (scan_of body)
  at_rsne ← once places.rsne
  at_timeout ← once places.timeout
  at_parameters ← once places.parameters
  at_mic ← once places.mic
  _ ← holds (is_never places.fragment)
  _ ← holds (is_never places.wrapped)
  rsne ← rsne_of (content body at_rsne)
  lifetime ← timeout_of (content body at_timeout)
  parameters ← parameters_of AccessPoint (content body (extended at_parameters))
  _ ← holds (is_none parameters.comeback)
  offer ← parameters.offer
  Some (record {
    algorithm = header.algorithm;
    transaction = header.transaction;
    status = header.status;
    group_cipher = rsne.group;
    pairwise = rsne.pairwise;
    akm = rsne.akm;
    capabilities = rsne.capabilities;
    pmkids = content (content body at_rsne) rsne.pmkids;
    management = rsne.management;
    lifetime = lifetime;
    format = parameters.format;
    group = offer.group;
    key = content (content body (extended at_parameters)) offer.key;
    mic = content body at_mic;
  })
