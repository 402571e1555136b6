-- Comeback information as its reader takes it, by the layouts of every frame. None unless the string is a body that walks to its end, with no Fragment, and
-- has PASN Parameters exactly once: well-formed, B0 set, B1 clear, format 0, and a cookie of at most 32 octets. Other elements are not looked at.
use Rattle.std.specs.Prelude.{◌≡◌, ℕ, ◌≤◌, List, Option, None, Some, is_none, eqb, leb, length}
use Rattle.std.specs.Result.{result_ok}
use Rattle.octets.specs.Maybe.{◌>>=◌}
use Rattle.elements.specs.declared.Part.{Part}
use Rattle.elements.specs.Body.{body_of}
use Rattle.elements.specs.Lies.{content}
use Rattle.scan.specs.Scan.{scan_of}
use Rattle.scan.specs.Times.{once, is_never}
use Rattle.parameters.specs.declared.Comeback.{Comeback}
use Rattle.parameters.specs.declared.Side.TheVariants.{AccessPoint}
use Rattle.parameters.specs.Parameters.{parameters_of}
use Rattle.frames.specs.Contents.{extended, holds}

-- the cookie is its octets
pub record ComebackRead : Type 0 where
  pub algorithm : ℕ
  pub transaction : ℕ
  pub status : ℕ
  pub after : ℕ
  pub cookie : List ℕ

-- with B0 an access point's Comeback After and cookie
abbrev pub is_after : Comeback → Option (ℕ × Part)
is_after (Comeback.After after cookie) = Some (after, cookie)
is_after (Comeback.Cookie cookie) = None

unfoldable pub comeback_in : List ℕ → Option ComebackRead
comeback_in body = do
  header ← body_of body
  places ← result_ok (scan_of body)
  _ ← holds (is_never places.fragment)
  at_parameters ← once places.parameters
  parameters ← parameters_of AccessPoint (content body (extended at_parameters))
  comeback ← parameters.comeback
  (after, cookie) ← is_after comeback
  _ ← holds (is_none parameters.offer)
  _ ← holds (eqb parameters.format 0)
  _ ← holds (leb (length (content (content body (extended at_parameters)) cookie)) 32)
  Some (record {
    algorithm = header.algorithm;
    transaction = header.transaction;
    status = header.status;
    after = after;
    cookie = content (content body (extended at_parameters)) cookie;
  })

-- a reply whose cookie its reader takes, read back, shows what was put
abbrev pub ReadsBack : ℕ → ℕ → ℕ → List ℕ → List ℕ → Type 0
ReadsBack algorithm status after cookie reply = length cookie ≤ 32
    → comeback_in reply ≡ Some (record { algorithm = algorithm; transaction = 2; status = status; after = after; cookie = cookie })
