-- The header of a body: algorithm, transaction, status.
use Rattle.std.specs.Prelude.{ℕ, List, ◌++◌}
use Rattle.octets.specs.Numbers.{octets}

abbrev pub header_size : ℕ
header_size = 6

unfoldable pub header_octets : ℕ → ℕ → ℕ → List ℕ
header_octets algorithm transaction status = octets 2 algorithm ++ octets 2 transaction ++ octets 2 status
