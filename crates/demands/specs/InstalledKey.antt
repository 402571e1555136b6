-- The installed key: at which moments an address holds one, told by its own calls and their readings.
use Rattle.std.specs.Prelude.{ℕ, ◌+◌, ◌<◌, ◌≤◌, ◌≡◌, Bool, true, false, List, ◌∷◌, ◌++◌, ◌↔◌, Some}
use Rattle.units.specs.declared.Tu.{Tu}
use Rattle.units.specs.Units.{in_tu}
use Rattle.peers.specs.declared.Peer.{Peer}
use Rattle.peers.specs.declared.Phase.TheVariants.{Installed}
use Rattle.peers.specs.declared.Table.{Table}
use Rattle.peers.specs.View.{shows}
use Rattle.rules.specs.OnePeer.{Call, same, becomes, answer_number}
use Rattle.rules.specs.Alone.{Ask, receive, remove, look_up, Got, Alone, outcome_for, leaves, alone_after}
use Rattle.octets.specs.Search.{Each}
use Rattle.demands.specs.Served.{last_reading, Served, asks_of}

-- the table shows p for the address, and its phase is installed
pub record HasKey (t : Table) (n : Tu) (a : List ℕ) (p : Peer) : Type 0 where
  pub end : Tu
  pub shown : shows t n a ≡ Some p
  pub phase : p.phase ≡ Installed end

-- the one-peer rules answer a frame with this number, and make this record
pub record Makes (number : ℕ) (s : Alone) (frame : Call) (p : Peer) : Type 0 where
  pub answer : answer_number (outcome_for s frame).answer ≡ number
  pub made : (outcome_for s frame).leaves ≡ becomes p

-- a peer whose exchange waits since its first frame
abbrev pub waiting_since : Call → Peer → Alone
waiting_since first exchange = record { latest = first.brought.reading; peer = Some exchange }

-- a call that neither ends nor replaces the exchange
abbrev pub Spares : Call → Peer → Ask → Type 0
Spares first exchange ask = leaves (waiting_since first exchange) ask ≡ same

abbrev pub is_removal : Ask → Bool
is_removal (receive frame) = false
is_removal (remove address reading) = true
is_removal (look_up address reading) = false

-- By its own calls, an address holds the key of p at n: its accepted first frame was followed, before the deadline, by a third frame that the rules
-- accept; none of its calls between had ended or replaced that exchange; no removal came since; and the key's end is still ahead.
pub record Holds (asks : List Ask) (n : Tu) (p : Peer) : Type 0 where
  pub before : List Ask
  pub first : Call
  pub between : List Ask
  pub third : Call
  pub since : List Ask
  pub split : asks ≡ before ++ (receive first ∷ (between ++ (receive third ∷ since)))
  pub exchange : Peer
  pub accepted : Makes 0 (alone_after before) first exchange
  pub before_deadline : third.brought.reading.0 < first.brought.reading.0 + first.brought.settings.deadline.0
  pub third_accepted : Makes 15 (waiting_since first exchange) third p
  pub undisturbed : Each (Spares first exchange) between
  pub not_removed : Each (λ (ask : Ask). is_removal ask ≡ false) since
  pub end_ahead : n.0 < third.brought.reading.0 + (in_tu p.agreed.lifetime).0

-- From the last reading on, whoever else called between.
abbrev pub InstalledKey : Type 0
InstalledKey = (asks : List Ask) (gots : List Got) (end : Table) → Served asks gots end → (a : List ℕ) (n : Tu) → (last_reading asks).0 ≤ n.0
    → (p : Peer) → HasKey end n a p ↔ Holds (asks_of a asks) n p
