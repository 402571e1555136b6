-- A body is 6 to 1,024 octets: algorithm (2), transaction (2), status (2), then elements.
use Rattle.std.specs.Prelude.{ℕ, List, Option, Some, None, ltb, length, if◌then◌else◌}
use Rattle.octets.specs.Numbers.{le}
use Rattle.elements.specs.declared.Header.{Header}

-- the algorithm number of PASN
abbrev pub pasn : ℕ
pasn = 7

abbrev pub header_of : List ℕ → Header
header_of s = record { algorithm = le 2 s 0; transaction = le 2 s 2; status = le 2 s 4 }

-- the header of a body; any other length is none's
unfoldable pub body_of : List ℕ → Option Header
body_of s =
    if ltb (length s) 6 then None
    else (if ltb 1024 (length s) then None
    else Some (header_of s))
