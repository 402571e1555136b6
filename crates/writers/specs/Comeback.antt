-- The reply that tells a station to come back: status, then PASN Parameters of control 1, format 0, Comeback After and the cookie. No other element, no MIC.
use Rattle.std.specs.Prelude.{ℕ, ◌+◌, ◌<◌, ◌≤◌, None, Some, List, ◌++◌}
use Rattle.parameters.specs.declared.Side.TheVariants.{AccessPoint}
use Rattle.parameters.specs.Parameters.{parameters_size, parameters_octets}
use Rattle.writers.specs.Header.{header_size, header_octets}

-- transaction 2
unfoldable pub comeback_reply : ℕ → ℕ → ℕ → List ℕ → List ℕ
comeback_reply algorithm status after cookie =
    header_octets algorithm 2 status
    ++ parameters_octets AccessPoint (record { comeback = Some (after, cookie); format = 0; offer = None })

-- the octets of one with a cookie of c: Comeback After stands where the group would, and the cookie where the key would
abbrev pub comeback_size : ℕ → ℕ
comeback_size c = header_size + (parameters_size + c)

-- a cookie of c octets fits its element, and all of it a buffer of n
pub record ComebackFits (c n : ℕ) : Type 0 where
  pub cookie : c < 250
  pub room : comeback_size c ≤ n
