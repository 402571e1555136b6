-- A step of the table is one of its peer alone, where the clock fits and the table has room.
use Prim.Native.Nat.{ℕ, ◌≤◌}
use mathlib.Core.Path.{◌≡◌, refl, sym, ap, ap₂, ◌∙◌}
use mathlib.Core.Bool.{Bool, true, false}
use mathlib.Core.List.{List}
use Rattle.std.specs.Prelude.{Option, None, Some, if◌then◌else◌}
use native.Mathlib.Omega.{arith}
use lib.Dec.{eqb}
use lib.ListN.{length}
use Rattle.units.specs.declared.Tu.{Tu}
use Rattle.units.specs.Units.{clock_limit}
use Rattle.peers.specs.declared.Peer.{Peer}
use Rattle.peers.specs.declared.Table.{Table}
use Rattle.peers.specs.View.{shows, full}
use Rattle.peers.proofs.Laws.{shown_is}
use Rattle.rules.specs.OnePeer.{Call, Left, same, Outcome, is_early, receive_of, remove_of, look_up_of, removal_number, look_number}
use Rattle.rules.specs.declared.LookUp.{LookUp}
use Rattle.platform.specs.declared.LookedUp.{LookedUp}
use Rattle.platform.specs.declared.Received.{Received}
use Rattle.rules.specs.declared.Removal.{Removal}
use Rattle.platform.specs.declared.Removed.{Removed}
use Rattle.platform.specs.Promises.{Settles, Dates, Receives, left_by_removal, Removes, IsSeen, LooksUp}
use Rattle.platform.proofs.Settling.{settles_none}
use Rattle.rules.specs.Alone.{Ask, receive, remove, look_up, whose, reading_of, Got, answered, removed, found, Alone, live_at, outcome_for, removal_for, look_for, overwritten, gets, removal_leaves, leaves}
use Rattle.demands.specs.Served.{given, Allowed, receives, removes, looks_up}
use Rattle.demands.proofs.Latest.{receive_dated, remove_dated, look_dated}
use Rattle.demands.proofs.Outcomes.{Kind, keeps, ends, begins, installs, kind_of}
use Rattle.demands.proofs.Room.{OfAddress}

made_by : (call : Call) {own : Option Peer} {o : Outcome} → Kind call own o → ((p : Peer) → own ≡ Some p → p.address ≡ call.brought.address)
    → OfAddress call.brought.address o.leaves
made_by call (keeps e) h = rw e tt
made_by call (ends i e) h = rw e tt
made_by call (begins passed i g a e) h = rw e refl
made_by call (installs p q w a e) h = rw e (h p q)

-- what a step does to the table, and that it is what its peer alone gets and leaves
pub record Stepped (t : Table) (ask : Ask) (got : Got) (u : Table) : Type 0 where
  pub left : Left
  pub settles : Settles t (whose ask) (reading_of ask) left u
  pub made : OfAddress (whose ask) left
  pub latest : u.latest.0 ≤ (reading_of ask).0
  pub alone : (s : Alone) → s.latest.0 ≤ (reading_of ask).0 → shows t (reading_of ask) (whose ask) ≡ live_at s.peer (reading_of ask)
      → (got ≡ gets s ask) × (left ≡ leaves s ask)

-- the latest reading is not after the call's
dates_by : {t : Table} {n : Tu} {number : ℕ} {r : Table} → t.latest.0 ≤ n.0 → Dates t n number r → r.latest.0 ≤ n.0
dates_by {n = n} {number = number} {r = r} h d = go (is_early number) refl
  where
    go : (b : Bool) → is_early number ≡ b → r.latest.0 ≤ n.0
    go true e = rw (d.early e) h
    go false e = rw (d.latest e) (omega arith)

module _ (t : Table) (n : Tu) (a : List ℕ) (h : t.latest.0 ≤ n.0) (k : n.0 ≤ clock_limit) where
  removal_left : (answer : Removal) (number : ℕ) → removal_number answer ≡ number → left_by_removal answer ≡ removal_leaves number
  removal_left Removal.ClockOut number e = rw (← e)
  removal_left Removal.GroupAddress number e = rw (← e)
  removal_left Removal.NoRecord number e = rw (← e)
  removal_left Removal.Removed number e = rw (← e)

  removal_made : (answer : Removal) → OfAddress a (left_by_removal answer)
  removal_made Removal.ClockOut = tt
  removal_made Removal.GroupAddress = tt
  removal_made Removal.NoRecord = tt
  removal_made Removal.Removed = tt

  look_given : (answer : LookUp) (p : Peer) (number : ℕ) → IsSeen (shows t n a) p answer → look_number answer ≡ number
      → given answer p ≡ (if eqb number 18 then shows t n a else None)
  look_given LookUp.ClockOut p number s e = rw (← e)
  look_given LookUp.GroupAddress p number s e = rw (← e)
  look_given LookUp.NoRecord p number s e = rw (← e)
  look_given LookUp.Shown p number s e = rw (← e) (sym s)

  remove_stepped : {r : Removed} → Removes t a n r → Stepped t (remove a n) (removed (removal_number r.answer)) r.table
  remove_stepped {r} w = record {
    left = left_by_removal r.answer;
    settles = w.settles;
    made = removal_made r.answer;
    latest = dates_by h w.dates;
    alone = λ s l e.
        let q : removal_number r.answer ≡ removal_for s a n = w.number ∙ remove_dated t.latest s.latest n h l k a (shows t n a) ∙ ap (remove_of s.latest n a) e in
        (ap removed q, removal_left r.answer (removal_for s a n) q);
  }

  look_stepped : {r : LookedUp} → LooksUp t a n r → Stepped t (look_up a n) (found (look_number r.answer) (given r.answer r.peer)) t
  look_stepped {r} w = record {
    left = same;
    settles = settles_none t a n;
    made = tt;
    latest = h;
    alone = λ s l e.
        let q : look_number r.answer ≡ look_for s a n = w.number ∙ look_dated t.latest s.latest n h l k a (shows t n a) ∙ ap (look_up_of s.latest n a) e in
        (ap₂ found q (look_given r.answer r.peer (look_for s a n) w.shown q ∙ ap (λ (o : Option Peer). if eqb (look_for s a n) 18 then o else None) e), refl);
  }

module _ (t : Table) (frame : Call) (h : t.latest.0 ≤ frame.brought.reading.0) (k : frame.brought.reading.0 ≤ clock_limit) where
  abbrev n : Tu
  n = frame.brought.reading

  abbrev a : List ℕ
  a = frame.brought.address

  abbrev got : Outcome → Got
  got o = answered o.answer (length o.reply) (overwritten o.reply frame.buffer)

  abbrev outcome : Outcome
  outcome = receive_of t.latest (full t n a) (shows t n a) frame

  receive_stepped : full t n a ≡ false → {buffer : List ℕ} {r : Received} → Receives t frame buffer r
      → Stepped t (receive frame) (answered r.answer r.length buffer) r.table
  receive_stepped f {buffer} {r} w = record {
    left = outcome.leaves;
    settles = w.settles;
    made = made_by frame (kind_of frame t.latest (full t n a) (shows t n a)) (λ p e. (shown_is t n a e).address);
    latest = dates_by h w.dates;
    alone = λ s l e. (rw (w.answer, w.reply.tells, w.reply.leaves) (ap got (alike s l e)), ap (λ (o : Outcome). o.leaves) (alike s l e));
  }
    where
      alike : (s : Alone) → s.latest.0 ≤ n.0 → shows t n a ≡ live_at s.peer n → outcome ≡ outcome_for s frame
      alike s l e = receive_dated t.latest s.latest n h l k (full t n a) (shows t n a) frame refl
          ∙ ap₂ (λ (b : Bool) (o : Option Peer). receive_of s.latest b o frame) f e

pub stepped : {t u : Table} {ask : Ask} {got : Got} → t.latest.0 ≤ (reading_of ask).0 → (reading_of ask).0 ≤ clock_limit
    → full t (reading_of ask) (whose ask) ≡ false → Allowed t ask got u → Stepped t ask got u
stepped {t} h k f (receives {call = frame} w) = receive_stepped t frame h k f w
stepped {t} h k f (removes {a = a} {n = n} w) = remove_stepped t n a h k w
stepped {t} h k f (looks_up {a = a} {n = n} w) = look_stepped t n a h k w
