-- What a host asks of a unit, call by call, and every run that the unit's promises allow.
use Rattle.std.specs.Prelude.{ℕ, ◌≤◌, ◌≡◌, length, if◌then◌else◌, Option, None, Some}
use mathlib.Core.List.{List, [], ◌∷◌, Memᴰ}
use Rattle.octets.specs.Equality.{same_octets}
use Rattle.octets.specs.Search.{Each}
use Rattle.units.specs.declared.Tu.{Tu}
use Rattle.units.specs.Units.{clock_limit}
use Rattle.peers.specs.declared.Peer.{Peer}
use Rattle.peers.specs.declared.Table.{Table}
use Rattle.peers.specs.Promises.{Nobody}
use Rattle.rules.specs.OnePeer.{Call, removal_number, look_number}
use Rattle.rules.specs.Alone.{Ask, receive, remove, look_up, whose, reading_of, Got, answered, removed, found}
use Rattle.rules.specs.declared.LookUp.{LookUp}
use Rattle.platform.specs.declared.LookedUp.{LookedUp}
use Rattle.platform.specs.declared.Received.{Received}
use Rattle.platform.specs.declared.Removed.{Removed}
use Rattle.platform.specs.Promises.{Receives, Removes, LooksUp}

-- the record that a look-up gives: one beside 18, else none
abbrev pub given : LookUp → Peer → Option Peer
given LookUp.ClockOut p = None
given LookUp.GroupAddress p = None
given LookUp.NoRecord p = None
given LookUp.Shown p = Some p

-- a table of sixteen places, as every one is that the operations make
abbrev pub Sixteen : Table → Type 0
Sixteen t = length t.peers ≡ 16

-- A step of the table that the promises allow.
pub data Allowed : Table → Ask → Got → Table → Type 0 where
  receives : {t : Table} {call : Call} {buffer : List ℕ} {r : Received} → Receives t call buffer r
      → Allowed t (receive call) (answered r.answer r.length buffer) r.table
  removes : {t : Table} {a : List ℕ} {n : Tu} {r : Removed} → Removes t a n r
      → Allowed t (remove a n) (removed (removal_number r.answer)) r.table
  looks_up : {t : Table} {a : List ℕ} {n : Tu} {r : LookedUp} → LooksUp t a n r
      → Allowed t (look_up a n) (found (look_number r.answer) (given r.answer r.peer)) t

-- Every run that they allow, from a table to a table.
pub data Runs : Table → List Ask → List Got → Table → Type 0 where
  ends : {t : Table} → Runs t [] [] t
  goes : {t u v : Table} {ask : Ask} {got : Got} {asks : List Ask} {gots : List Got} → Allowed t ask got u → Runs u asks gots v
      → Runs t (ask ∷ asks) (got ∷ gots) v

abbrev pub zero_tu : Tu
zero_tu = record { 0 = 0 }

-- From a reading on, the clock never goes back and never exceeds its limit.
abbrev pub From : Tu → List Ask → Type 0
From n [] = Unit {0}
From n (ask ∷ asks) = (n.0 ≤ (reading_of ask).0) × ((reading_of ask).0 ≤ clock_limit) × From (reading_of ask) asks

-- the last reading, or n where there is no call
abbrev pub last_from : Tu → List Ask → Tu
last_from n [] = n
last_from n (ask ∷ asks) = last_from (reading_of ask) asks

abbrev pub last_reading : List Ask → Tu
last_reading asks = last_from zero_tu asks

-- Calls of at most sixteen addresses, by a clock that never goes back, on a unit that starts; what they got, and the table at their end.
pub record Served (asks : List Ask) (gots : List Got) (end : Table) : Type 0 where
  pub addresses : List (List ℕ)
  pub few : length addresses ≤ 16
  pub of_these : Each (λ (ask : Ask). Memᴰ (whose ask) addresses) asks
  pub in_order : From zero_tu asks
  pub start : Table
  pub nobody : Nobody start
  pub run : Runs start asks gots end

-- The promises can be kept: calls of at most sixteen addresses, by a clock that never goes back, are served.
pub record Service (asks : List Ask) : Type 0 where
  pub gots : List Got
  pub end : Table
  pub served : Served asks gots end

abbrev pub CanBeServed : Type 0
CanBeServed = (addresses : List (List ℕ)) → length addresses ≤ 16 → (asks : List Ask) → Each (λ (ask : Ask). Memᴰ (whose ask) addresses) asks → From zero_tu asks
    → Service asks

-- an address's own calls, and what they got
abbrev pub asks_of : List ℕ → List Ask → List Ask
asks_of a [] = []
asks_of a (ask ∷ asks) = if same_octets (whose ask) a then ask ∷ asks_of a asks else asks_of a asks

abbrev pub got_by : List ℕ → List Ask → List Got → List Got
got_by a [] gots = []
got_by a (ask ∷ asks) [] = []
got_by a (ask ∷ asks) (got ∷ gots) = if same_octets (whose ask) a then got ∷ got_by a asks gots else got_by a asks gots
