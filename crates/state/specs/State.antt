-- The octets that a host keeps, sixteen records and then the latest reading: which table any octets are.
use Rattle.std.specs.Prelude.{ℕ, ◌+◌, ◌*◌, ◌≡◌, List, map}
use Rattle.octets.specs.Numbers.{le}
use Rattle.octets.specs.Pieces.{pieces}
use Rattle.units.specs.declared.Tu.{Tu}
use Rattle.peers.specs.declared.Table.{Table}
use Rattle.peers.specs.View.{dated}
use Rattle.records.specs.Record.{record_size, peer_of}

-- where the latest reading begins
abbrev pub latest_at : ℕ
latest_at = 16 * record_size

-- how many octets a state has
abbrev pub state_size : ℕ
state_size = latest_at + 8

-- the table that a state is
unfoldable pub table_of : List ℕ → Table
table_of s = record { peers = map peer_of (pieces record_size 16 s); latest = record { 0 = le 8 s latest_at } }

-- The latest reading of a state becomes n. Where it was n already, every octet stays.
pub record Redates (s : List ℕ) (n : Tu) (s' : List ℕ) : Type 0 where
  pub table : table_of s' ≡ dated (table_of s) n
  pub same : n ≡ (table_of s).latest → s' ≡ s
