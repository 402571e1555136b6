-- What the promise of receive shuts out: responders that look right from afar.
use Rattle.std.specs.Prelude.{◌≡◌, true, List, ℕ, take}
use Rattle.units.specs.declared.Tu.{Tu}
use Rattle.peers.specs.declared.Table.{Table}
use Rattle.peers.specs.View.{shows}
use Rattle.rules.specs.OnePeer.{Call, answer_number, is_installed}
use Rattle.platform.specs.Promises.{Receives}
use Rattle.demands.specs.Coincide.{Reception}
use Rattle.demands.specs.Served.{Sixteen}

-- anything that takes a table and a call
abbrev pub Responder : Type 0
Responder = Table → Call → Reception

-- it does what receive promises, for every table of sixteen places
abbrev pub Meets : Responder → Type 0
Meets f = (t : Table) → Sixteen t → (call : Call) → Receives t call (f t call).buffer (f t call).received

-- there is one: what receive computes
pub record Met : Type 0 where
  pub responder : Responder
  pub meets : Meets responder

abbrev pub Gives : Responder → ℕ → Table → Call → Type 0
Gives f number t call = answer_number (f t call).received.answer ≡ number

-- it never gives an answer
abbrev pub Never : ℕ → Responder → Type 0
Never number f = (t : Table) (call : Call) → ¬ Gives f number t call

-- its reply to a first frame that it accepts is always one and the same
pub record ConstantReply (f : Responder) : Type 0 where
  pub reply : List ℕ
  pub constant : (t : Table) (call : Call) → Gives f 0 t call → take (f t call).received.length (f t call).buffer ≡ reply

abbrev pub WritesNothing : Responder → Type 0
WritesNothing f = (t : Table) (call : Call) → (f t call).buffer ≡ call.buffer

abbrev pub RecordsNothing : Responder → Type 0
RecordsNothing f = (t : Table) (call : Call) (m : Tu) (a : List ℕ) → shows (f t call).received.table m a ≡ shows t m a

-- with the second frame the peer is installed, so that the third has nothing left to do
abbrev pub InstallsAtOnce : Responder → Type 0
InstallsAtOnce f = (t : Table) (call : Call) → Gives f 0 t call
    → is_installed (shows (f t call).received.table call.brought.reading call.brought.address) ≡ true

-- One that refuses all frames is shut out twice over, and so is one that neither writes nor records.
pub record ShutsOut : Type 0 where
  pub not_all : Met
  pub refuses_first_frames : (f : Responder) → Never 0 f → ¬ Meets f
  pub refuses_third_frames : (f : Responder) → Never 15 f → ¬ Meets f
  pub constant_reply : (f : Responder) → ConstantReply f → ¬ Meets f
  pub writes_nothing : (f : Responder) → WritesNothing f → ¬ Meets f
  pub records_nothing : (f : Responder) → RecordsNothing f → ¬ Meets f
  pub installs_at_once : (f : Responder) → InstallsAtOnce f → ¬ Meets f
