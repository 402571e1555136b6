-- What receive, removal and look-up compute of a table, as functions: each keeps its promise.
use Prim.Native.Nat.{ℕ}
use mathlib.Core.Path.{◌≡◌, refl, sym, subst, ◌∙◌}
use mathlib.Core.List.{List, [], ◌∷◌, ◌++◌}
use Rattle.std.specs.Prelude.{Option, None, Some, Result, Ok, Err}
use lib.ListN.{length, drop, replicate}
use Rattle.units.specs.declared.Tu.{Tu}
use Rattle.elements.specs.Body.{body_of}
use Rattle.peers.specs.declared.Peer.{Peer}
use Rattle.peers.specs.declared.Table.{Table}
use Rattle.peers.specs.View.{shows, full, dated, vacant_peer}
use Rattle.peers.proofs.Filling.{fill, fill_length}
use Rattle.peers.proofs.Laws.{shown_is, full_shown}
use Rattle.peers.proofs.Promised.{nobody, elsewhere, drops, taken, puts}
use Rattle.rules.specs.declared.Answer.{Answer}
use Rattle.rules.specs.OnePeer.{Call, Left, same, gone, becomes, Outcome, checks, on_body, receive_of}
use Rattle.rules.specs.Alone.{Ask, receive, remove, look_up, Got}
use Rattle.checks.specs.declared.Barred.{Barred}
use Rattle.checks.specs.Checked.{barred_of, removal_of, look_up_of}
use Rattle.rules.specs.declared.LookUp.{LookUp}
use Rattle.platform.specs.declared.LookedUp.{LookedUp}
use Rattle.rules.specs.declared.Removal.{Removal}
use Rattle.platform.specs.declared.Removed.{Removed}
use Rattle.platform.specs.Inside.{Seats}
use Rattle.platform.specs.Promises.{Settles, Answers, ruled, Receives, Removes, LooksUp}
use Rattle.platform.proofs.Asking.{removes_barred, removes_none, removes_some, looks_barred, looks_none, looks_some}
use Rattle.platform.proofs.Receiving.{received_early}
use Rattle.platform.proofs.Settling.{dates_late, settles_same, settles_gone, settles_becomes}
use Rattle.platform.proofs.Sound.{Placed, sound}
use Rattle.demands.specs.Coincide.{Reception}
use Rattle.demands.specs.Served.{Sixteen, Allowed, receives, removes, looks_up, Runs, ends, goes, zero_tu, CanBeServed}
use Rattle.demands.specs.ShutsOut.{Responder, Met}

-- the table that a call leaves
settled : Table → Tu → List ℕ → Left → Table
settled t n a same = dated t n
settled t n a gone = record { peers = fill (elsewhere a) vacant_peer t.peers; latest = n }
settled t n a (becomes p) = record { peers = fill (taken n p.address) p t.peers; latest = n }

module _ (t : Table) (l : Sixteen t) (n : Tu) (a : List ℕ) where
  settles : (left : Left) → Seats a (full t n a) left → Settles t a n left (settled t n a left)
  unfolding settled
  settles same s = settles_same t a n
  settles gone s = settles_gone t a n (drops a (dated t n) (settled t n a gone) refl refl)
  settles (becomes p) s = settles_becomes t a n p s.0 s.1 (puts (dated t n) l p (settled t n a (becomes p)) refl refl)

  settled_latest : (left : Left) → (settled t n a left).latest ≡ n
  unfolding settled
  settled_latest same = refl
  settled_latest gone = refl
  settled_latest (becomes p) = refl

  settled_places : (left : Left) → Sixteen (settled t n a left)
  unfolding settled
  settled_places same = l
  settled_places gone = fill_length (elsewhere a) vacant_peer t.peers ∙ l
  settled_places (becomes p) = fill_length (taken n p.address) p t.peers ∙ l

-- Receive ---------------------------------------------------------------------------------------------------------------------------------

abbrev body_outcome : Table → Call → Outcome
body_outcome t call = on_body call (body_of call.body) (full t call.brought.reading call.brought.address) (shows t call.brought.reading call.brought.address)

abbrev reception : Table → Answer → List ℕ → Call → Reception
reception t answer reply call =
    record { received = record { table = t; answer = answer; length = length reply }; buffer = reply ++ drop (length reply) call.buffer }

abbrev reception_by : Table → Call → Option Answer → Reception
reception_by t call (Some answer) = reception t answer [] call
reception_by t call None =
    let o = body_outcome t call in
    reception (settled t call.brought.reading call.brought.address o.leaves) o.answer o.reply call

abbrev checked : Table → Call → Option Answer
checked t call = checks t.latest call.brought call.cache (length call.buffer)

abbrev receiver : Responder
receiver t call = reception_by t call (checked t call)

module _ (t : Table) (l : Sixteen t) (call : Call) where
  abbrev n : Tu
  n = call.brought.reading

  abbrev a : List ℕ
  a = call.brought.address

  placed : Placed call (full t n a) (shows t n a)
  placed = go (shows t n a) refl
    where
      go : (o : Option Peer) → shows t n a ≡ o → Placed call (full t n a) o
      go None e = tt
      go (Some p) e = ((shown_is t n a e).address, full_shown t n a e)

  meets : Receives t call (receiver t call).buffer (receiver t call).received
  unfolding receive_of
  meets = go (checked t call) refl
    where
      ruled_by : checked t call ≡ None → ruled t call ≡ body_outcome t call
      ruled_by e = rw e

      go : (c : Option Answer) → checked t call ≡ c → Receives t call (reception_by t call c).buffer (reception_by t call c).received
      go (Some answer) e = received_early t call e
      go None e =
          let s = sound call (full t n a) (shows t n a) (body_of call.body) in
          let r = reception_by t call None in
          subst (λ (o : Outcome). Answers t call o r.buffer r.received) (sym (ruled_by e))
          (record {
            number = refl;
            answer = refl;
            reply = record { tells = refl; leaves = refl };
            dates = dates_late t s.late (settled_latest t l n a (body_outcome t call).leaves);
            settles = settles t l n a (body_outcome t call).leaves (s.seats placed);
          })

  received_places : (c : Option Answer) → Sixteen (reception_by t call c).received.table
  received_places (Some answer) = l
  received_places None = settled_places t l n a (body_outcome t call).leaves

pub met : Met
met = record { responder = receiver; meets = meets }

-- Removal and look-up ---------------------------------------------------------------------------------------------------------------------

module _ (t : Table) (a : List ℕ) (n : Tu) where
  abbrev removed_by : Result (Unit {0}) Barred → Option Peer → Removed
  removed_by (Err barred) own = record { table = t; answer = removal_of barred }
  removed_by (Ok passed) None = record { table = dated t n; answer = Removal.NoRecord }
  removed_by (Ok passed) (Some p) = record { table = settled t n a gone; answer = Removal.Removed }

  removes_so : (check : Result (Unit {0}) Barred) → barred_of t.latest n a ≡ check → (own : Option Peer) → shows t n a ≡ own → Removes t a n (removed_by check own)
  unfolding settled
  removes_so (Err barred) e own s = removes_barred t a n barred e
  removes_so (Ok passed) e None s = removes_none t a n e s
  removes_so (Ok passed) e (Some p) s = removes_some t a n e s (drops a (dated t n) (settled t n a gone) refl refl)

  removed_places : Sixteen t → (check : Result (Unit {0}) Barred) (own : Option Peer) → Sixteen (removed_by check own).table
  removed_places l (Err barred) own = l
  removed_places l (Ok passed) None = l
  removed_places l (Ok passed) (Some p) = settled_places t l n a gone

  abbrev looked_by : Result (Unit {0}) Barred → Option Peer → LookedUp
  looked_by (Err barred) own = record { answer = look_up_of barred; peer = vacant_peer }
  looked_by (Ok passed) None = record { answer = LookUp.NoRecord; peer = vacant_peer }
  looked_by (Ok passed) (Some p) = record { answer = LookUp.Shown; peer = p }

  looks_so : (check : Result (Unit {0}) Barred) → barred_of t.latest n a ≡ check → (own : Option Peer) → shows t n a ≡ own → LooksUp t a n (looked_by check own)
  looks_so (Err barred) e own s = looks_barred t a n barred e
  looks_so (Ok passed) e None s = looks_none t a n e s
  looks_so (Ok passed) e (Some p) s = looks_some t a n e s

-- A run ---------------------------------------------------------------------------------------------------------------------------------

record Step (t : Table) (ask : Ask) : Type 0 where
  pub got : Got
  pub after : Table
  pub allowed : Allowed t ask got after
  pub places : Sixteen after

step : (t : Table) → Sixteen t → (ask : Ask) → Step t ask
step t l (receive call) = record {
  got = _;
  after = _;
  allowed = receives (meets t l call);
  places = received_places t l call (checked t call);
}
step t l (remove a n) =
    let check = barred_of t.latest n a in
    record { got = _; after = _; allowed = removes (removes_so t a n check refl (shows t n a) refl); places = removed_places t a n l check (shows t n a) }
step t l (look_up a n) = record { got = _; after = t; allowed = looks_up (looks_so t a n (barred_of t.latest n a) refl (shows t n a) refl); places = l }

record Run (t : Table) (asks : List Ask) : Type 0 where
  pub gots : List Got
  pub end : Table
  pub runs : Runs t asks gots end

run : (asks : List Ask) (t : Table) → Sixteen t → Run t asks
run [] t l = record { gots = []; end = t; runs = ends }
run (ask ∷ asks) t l =
    let s = step t l ask in
    let r = run asks s.after s.places in
    record { gots = s.got ∷ r.gots; end = r.end; runs = goes s.allowed r.runs }

abbrev start : Table
start = record { peers = replicate 16 vacant_peer; latest = zero_tu }

pub can_be_served : CanBeServed
can_be_served addresses few asks these order =
    let r = run asks start refl in
    record {
      gots = r.gots;
      end = r.end;
      served = record { addresses = addresses; few = few; of_these = these; in_order = order; start = start; nobody = nobody vacant_peer refl; run = r.runs };
    }
