-- Isolation: among at most sixteen addresses, nobody's calls but its own bear on what an address gets and on its record.
use Rattle.std.specs.Prelude.{ℕ, ◌≤◌, ◌≡◌, false}
use mathlib.Core.List.{List, Memᴰ}
use Rattle.units.specs.declared.Tu.{Tu}
use Rattle.peers.specs.declared.Table.{Table}
use Rattle.peers.specs.View.{shows, full}
use Rattle.rules.specs.Alone.{Ask, Got, live_at, alone_gets, alone_after}
use Rattle.demands.specs.Served.{last_reading, Served, asks_of, got_by}

-- An address gets what it would get alone, and from the last reading on the table shows the record that it would have alone, while it is live.
pub record Isolated (asks : List Ask) (gots : List Got) (end : Table) (a : List ℕ) : Type 0 where
  pub answers : got_by a asks gots ≡ alone_gets (asks_of a asks)
  pub shown : (n : Tu) → (last_reading asks).0 ≤ n.0 → shows end n a ≡ live_at (alone_after (asks_of a asks)).peer n

abbrev pub Isolation : Type 0
Isolation = (asks : List Ask) (gots : List Got) (end : Table) → Served asks gots end → (a : List ℕ) → Isolated asks gots end a

-- However many calls were served, the next one of these addresses meets no full table.
abbrev pub NeverFull : Type 0
NeverFull = (asks : List Ask) (gots : List Got) (end : Table) (served : Served asks gots end) (n : Tu) → (last_reading asks).0 ≤ n.0
    → (a : List ℕ) → Memᴰ a served.addresses → full end n a ≡ false
