-- One peer alone: what its calls get, one after another, and what they leave of its record, by the one-peer rules.
use Rattle.std.specs.Prelude.{ℕ, false, List, [], ◌∷◌, ◌++◌, eqb, length, drop, if◌then◌else◌, Option, None, Some}
use Rattle.units.specs.declared.Tu.{Tu}
use Rattle.peers.specs.declared.Peer.{Peer}
use Rattle.peers.specs.Promises.{while_live}
use Rattle.rules.specs.declared.Answer.{Answer}
use Rattle.rules.specs.OnePeer.{Call, Left, same, gone, Outcome, answer_number, is_early, peer_after, receive_of, remove_of, look_up_of}

-- Calls ---------------------------------------------------------------------------------------------------------------------------------

-- a removal and a look-up are of an address, at a clock reading
pub data Ask : Type 0 where
  receive : Call → Ask
  remove look_up : List ℕ → Tu → Ask

abbrev pub whose : Ask → List ℕ
whose (receive call) = call.brought.address
whose (remove address reading) = address
whose (look_up address reading) = address

abbrev pub reading_of : Ask → Tu
reading_of (receive call) = call.brought.reading
reading_of (remove address reading) = reading
reading_of (look_up address reading) = reading

-- A receive gets its answer, the length told and the whole reply buffer afterwards; a removal its number; a look-up its number, and the record or none.
pub data Got : Type 0 where
  answered : Answer → ℕ → List ℕ → Got
  removed : ℕ → Got
  found : ℕ → Option Peer → Got

-- One peer ------------------------------------------------------------------------------------------------------------------------------

-- the latest reading, and this peer's record or none
pub record Alone : Type 0 where
  pub latest : Tu
  pub peer : Option Peer

-- the record, while it is live
abbrev pub live_at : Option Peer → Tu → Option Peer
live_at None n = None
live_at (Some p) n = while_live p n

-- There are no others, so that no place is missing.
abbrev pub outcome_for : Alone → Call → Outcome
outcome_for s call = receive_of s.latest false (live_at s.peer call.brought.reading) call

abbrev pub removal_for : Alone → List ℕ → Tu → ℕ
removal_for s a n = remove_of s.latest n a (live_at s.peer n)

abbrev pub look_for : Alone → List ℕ → Tu → ℕ
look_for s a n = look_up_of s.latest n a (live_at s.peer n)

-- the octets of a reply, then what stood there
abbrev pub overwritten : List ℕ → List ℕ → List ℕ
overwritten reply buffer = reply ++ drop (length reply) buffer

abbrev pub gets : Alone → Ask → Got
gets s (receive call) =
    let o = outcome_for s call in
    answered o.answer (length o.reply) (overwritten o.reply call.buffer)
gets s (remove a n) = removed (removal_for s a n)
gets s (look_up a n) = found (look_for s a n) (if eqb (look_for s a n) 18 then live_at s.peer n else None)

-- a removal takes the record exactly if answered 16
abbrev pub removal_leaves : ℕ → Left
removal_leaves number = if eqb number 16 then gone else same

-- what a call leaves of the record
abbrev pub leaves : Alone → Ask → Left
leaves s (receive call) = (outcome_for s call).leaves
leaves s (remove a n) = removal_leaves (removal_for s a n)
leaves s (look_up a n) = same

-- Receive and removal, unless answered 1 to 5, set the latest reading; look-up never does.
abbrev pub dated : Tu → Tu → ℕ → Tu
dated latest n number = if is_early number then latest else n

abbrev pub latest_after : Alone → Ask → Tu
latest_after s (receive call) = dated s.latest call.brought.reading (answer_number (outcome_for s call).answer)
latest_after s (remove a n) = dated s.latest n (removal_for s a n)
latest_after s (look_up a n) = s.latest

abbrev pub next : Alone → Ask → Alone
next s ask = record { latest = latest_after s ask; peer = peer_after (live_at s.peer (reading_of ask)) (leaves s ask) }

abbrev pub next_all : Alone → List Ask → Alone
next_all s [] = s
next_all s (ask ∷ asks) = next_all (next s ask) asks

abbrev pub gets_all : Alone → List Ask → List Got
gets_all s [] = []
gets_all s (ask ∷ asks) = gets s ask ∷ gets_all (next s ask) asks

-- no record, latest reading 0
abbrev pub unknown : Alone
unknown = record { latest = record { 0 = 0 }; peer = None }

-- one peer's calls, alone from the start: what they get, and what they leave
abbrev pub alone_gets : List Ask → List Got
alone_gets asks = gets_all unknown asks

abbrev pub alone_after : List Ask → Alone
alone_after asks = next_all unknown asks
