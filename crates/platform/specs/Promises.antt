-- What the unit's operations promise, by what the tables show.
use Rattle.std.specs.Prelude.{ℕ, ◌+◌, ◌≤◌, ◌≡◌, true, false, List, ◌∷◌, if◌then◌else◌, Option, None, Some}
use Rattle.octets.specs.Equality.{same_octets}
use Rattle.octets.specs.Wrote.{Wrote}
use Rattle.units.specs.declared.Tu.{Tu}
use Rattle.peers.specs.declared.Peer.{Peer}
use Rattle.peers.specs.declared.Table.{Table}
use Rattle.peers.specs.View.{other, shows, others, full, vacant_peer}
use Rattle.peers.specs.Promises.{while_live}
use Rattle.rules.specs.declared.LookUp.{LookUp}
use Rattle.rules.specs.declared.Removal.{Removal}
use Rattle.rules.specs.OnePeer.{Call, Left, same, gone, becomes, Outcome, answer_number, is_early, receive_of, removal_number, remove_of, look_number, look_up_of}
use Rattle.platform.specs.declared.Received.{Received}
use Rattle.platform.specs.declared.Removed.{Removed}
use Rattle.platform.specs.declared.LookedUp.{LookedUp}

-- what is shown of this peer afterwards, by what was shown and what the call leaves
abbrev pub shown_after : Option Peer → Tu → Left → Option Peer
shown_after before m same = before
shown_after before m gone = None
shown_after before m (becomes p) = while_live p m

-- how many live records of addresses other than these there are afterwards
abbrev pub counted_after : Table → List ℕ → Tu → List (List ℕ) → Left → ℕ
counted_after t address m these same = others t m these
counted_after t address m these gone = others t m (address ∷ these)
counted_after t address m these (becomes p) = others t m (address ∷ these) + (if other m these p then 1 else 0)

-- From a reading on, this address shows what the call leaves, and every other address what it showed.
pub record Settles (t : Table) (address : List ℕ) (n : Tu) (left : Left) (r : Table) : Type 0 where
  pub shown : (m : Tu) → n.0 ≤ m.0 → (b : List ℕ)
      → shows r m b ≡ (if same_octets address b then shown_after (shows t m b) m left else shows t m b)
  pub counted : (m : Tu) → n.0 ≤ m.0 → (these : List (List ℕ)) → others r m these ≡ counted_after t address m these left

-- The answers 1 to 5 leave the table as it was, its latest reading too. Any other sets the latest reading.
pub record Dates (t : Table) (n : Tu) (number : ℕ) (r : Table) : Type 0 where
  pub early : is_early number ≡ true → r ≡ t
  pub latest : is_early number ≡ false → r.latest ≡ n

-- What a receive promises: the answer's number, and with 11 the step that refused; the length told, each octet of the reply buffer, the latest reading,
-- and what the table shows.
pub record Answers (t : Table) (call : Call) (outcome : Outcome) (after : List ℕ) (r : Received) : Type 0 where
  pub number : answer_number r.answer ≡ answer_number outcome.answer
  pub answer : r.answer ≡ outcome.answer
  pub reply : Wrote outcome.reply r.length call.buffer after
  pub dates : Dates t call.brought.reading (answer_number outcome.answer) r.table
  pub settles : Settles t call.brought.address call.brought.reading outcome.leaves r.table

-- what the one-peer rules give, by what the table shows of this address
abbrev pub ruled : Table → Call → Outcome
ruled t call =
    receive_of t.latest (full t call.brought.reading call.brought.address) (shows t call.brought.reading call.brought.address) call

abbrev pub Receives : Table → Call → List ℕ → Received → Type 0
Receives t call after r = Answers t call (ruled t call) after r

-- Removal and look-up -------------------------------------------------------------------------------------------------------------------

-- what a removal leaves of this address's record
abbrev pub left_by_removal : Removal → Left
left_by_removal Removal.ClockOut = same
left_by_removal Removal.GroupAddress = same
left_by_removal Removal.NoRecord = same
left_by_removal Removal.Removed = gone

pub record Removes (t : Table) (address : List ℕ) (n : Tu) (r : Removed) : Type 0 where
  pub number : removal_number r.answer ≡ remove_of t.latest n address (shows t n address)
  pub dates : Dates t n (removal_number r.answer) r.table
  pub settles : Settles t address n (left_by_removal r.answer) r.table

-- the record beside 18 is this peer's; beside another answer there is none
abbrev pub IsSeen : Option Peer → Peer → LookUp → Type 0
IsSeen own p LookUp.ClockOut = p ≡ vacant_peer
IsSeen own p LookUp.GroupAddress = p ≡ vacant_peer
IsSeen own p LookUp.NoRecord = p ≡ vacant_peer
IsSeen own p LookUp.Shown = own ≡ Some p

pub record LooksUp (t : Table) (address : List ℕ) (n : Tu) (r : LookedUp) : Type 0 where
  pub number : look_number r.answer ≡ look_up_of t.latest n address (shows t n address)
  pub shown : IsSeen (shows t n address) r.peer r.answer
