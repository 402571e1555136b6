-- The third frame, but for the comparison of its MIC, which has n octets. Refused: walk fails; a Fragment; PASN Parameters or MIC missing or twice; Parameters
-- ill-formed, B0 or B1 set or format not 0; Wrapped Data present; MIC length not n. RSNE and Timeout are ignored.
use Rattle.std.specs.Prelude.{ℕ, ◌-◌, List, Option, Some, is_none, eqb}
use Rattle.std.specs.Result.{result_ok}
use Rattle.octets.specs.Maybe.{◌>>=◌}
use Rattle.elements.specs.declared.Part.{Part}
use Rattle.elements.specs.Lies.{content}
use Rattle.scan.specs.Scan.{scan_of}
use Rattle.scan.specs.Times.{once, is_never}
use Rattle.parameters.specs.declared.Side.TheVariants.{Station}
use Rattle.parameters.specs.Parameters.{parameters_of}
use Rattle.frames.specs.Contents.{extended, holds}

-- the place of the MIC
unfoldable pub third_of : List ℕ → ℕ → Option Part
third_of body n = do
  places ← result_ok (scan_of body)
  _ ← holds (is_never places.fragment)
  at_parameters ← once places.parameters
  at_mic ← once places.mic
  parameters ← parameters_of Station (content body (extended at_parameters))
  _ ← holds (is_none parameters.comeback)
  _ ← holds (is_none parameters.offer)
  _ ← holds (eqb parameters.format 0)
  _ ← holds (is_never places.wrapped)
  _ ← holds (eqb (at_mic.end - at_mic.start) n)
  Some at_mic
