-- The outcomes coincide, by the promises alone.
use mathlib.Core.Path.{◌≡◌, refl, sym, ap, ap₂, subst, ◌∙◌}
use mathlib.Core.Bool.{Bool, true, false, not, true≢false}
use mathlib.Core.List.{List, ◌∷◌, ◌++◌}
use Rattle.std.specs.Prelude.{Option, if◌then◌else◌, is_none}
use Rattle.octets.proofs.Options.{some-injective}
use Prim.Native.Nat.{ℕ, ◌+◌, ◌≤◌}
use native.Mathlib.Omega.{arith}
use borrow.Author.Tests.{leb-true}
use lib.Dec.{eqb, leb}
use lib.ListN.{length, drop}
use Rattle.octets.specs.Equality.{same_octets}
use Rattle.octets.proofs.Logic.{both}
use Rattle.units.specs.declared.Tu.{Tu}
use Rattle.units.specs.Units.{in_clock}
use Rattle.chip.specs.declared.MicAnswer.{MicAnswer}
use Rattle.chip.specs.Chip.{mic_number}
use Rattle.peers.specs.declared.Peer.{Peer}
use Rattle.peers.specs.declared.Table.{Table}
use Rattle.peers.specs.Alike.{Alike}
use Rattle.peers.specs.Promises.{Nobody}
use Rattle.peers.specs.View.{other, shows, full}
use Rattle.peers.proofs.Laws.{alike_later, alike_full}
use Rattle.rules.specs.declared.Answer.{Answer}
use Rattle.rules.specs.OnePeer.{Call, answer_number, is_early, Left, same, gone, becomes, Outcome, unchanged, clock_fits, is_group_address, receive_of, look_up_of, removal_number, look_number}
use Rattle.rules.proofs.Checks.{checks_clock}
use Rattle.rules.specs.declared.LookUp.{LookUp}
use Rattle.platform.specs.declared.LookedUp.{LookedUp}
use Rattle.rules.specs.declared.Removal.{Removal}
use Rattle.platform.specs.declared.Removed.{Removed}
use Rattle.platform.specs.Promises.{shown_after, counted_after, Settles, Dates, ruled, Receives, left_by_removal, Removes, IsSeen, LooksUp}
use Rattle.demands.specs.Coincide.{Match, Reception, SameReception, SameRemoval, MicOutcome, OutcomesCoincide}

-- Tables that match -----------------------------------------------------------------------------------------------------------------------

nobody_matches : {r s : Table} → Nobody r → Nobody s → Match r s
nobody_matches x y = record {
  shown = λ m h a. x.shown m a ∙ sym (y.shown m a);
  counted = λ m h these. x.counted m these ∙ sym (y.counted m these);
  latest = x.latest ∙ sym y.latest;
}

-- a reading that fits is not before the latest
fits_later : (latest n : Tu) → clock_fits latest n ≡ true → latest.0 ≤ n.0
fits_later latest n h = leb-true latest.0 n.0 (both (leb latest.0 n.0) (in_clock n) h).0

module _ {n : Tu} {t u : Table} (w : Alike n t u) where
  counted_alike : (address : List ℕ) (m : Tu) → n.0 ≤ m.0 → (these : List (List ℕ)) (left : Left)
      → counted_after t address m these left ≡ counted_after u address m these left
  counted_alike address m h these same = w.counted m h these
  counted_alike address m h these gone = w.counted m h (address ∷ these)
  counted_alike address m h these (becomes p) = ap (λ (k : ℕ). k + (if other m these p then 1 else 0)) (w.counted m h (address ∷ these))

  -- what one call leaves of tables that are alike is alike
  settled_alike : {address : List ℕ} {left : Left} {r s : Table} → Settles t address n left r → Settles u address n left s → r.latest ≡ s.latest → Alike n r s
  settled_alike {address} {left} x y e = record {
    shown = λ m h b.
        x.shown m h b
        ∙ ap (λ (o : Option Peer). if same_octets address b then shown_after o m left else o) (w.shown m h b)
        ∙ sym (y.shown m h b);
    counted = λ m h these. x.counted m h these ∙ counted_alike address m h these left ∙ sym (y.counted m h these);
    latest = e;
  }

-- what matched before a call that does the same to both matches after it
module _ {t u : Table} (w : Match t u) (n : Tu) {number : ℕ} (fits : is_early number ≡ false → t.latest.0 ≤ n.0) where
  matches : {address : List ℕ} {left : Left} {r s : Table} → Dates t n number r → Dates u n number s → Settles t address n left r → Settles u address n left s
      → Match r s
  matches {left = left} {r = r} {s = s} d e x y = go (is_early number) refl
    where
      go : (b : Bool) → is_early number ≡ b → Match r s
      go true h = rw (d.early h, e.early h) w
      go false h = subst (λ (m : Tu). Alike m r s) (sym (d.latest h)) (settled_alike (alike_later w n (fits h)) x y (d.latest h ∙ sym (e.latest h)))

-- Receive ---------------------------------------------------------------------------------------------------------------------------------

clock_out : (latest : Tu) (full : Bool) (own : Option Peer) (call : Call) → clock_fits latest call.brought.reading ≡ false
    → receive_of latest full own call ≡ unchanged Answer.ClockOut
unfolding receive_of
clock_out latest full own call h = rw (checks_clock latest call.brought call.cache (length call.buffer) h)

-- what is not answered 1 to 5 has a reading that fits
late : (t : Table) (call : Call) → is_early (answer_number (ruled t call).answer) ≡ false → t.latest.0 ≤ call.brought.reading.0
late t call h = go (clock_fits t.latest call.brought.reading) refl
  where
    go : (b : Bool) → clock_fits t.latest call.brought.reading ≡ b → t.latest.0 ≤ call.brought.reading.0
    go true e = fits_later t.latest call.brought.reading e
    go false e = absurd (true≢false (sym (ap (λ (o : Outcome). is_early (answer_number o.answer)) (clock_out t.latest (full t call.brought.reading call.brought.address) (shows t call.brought.reading call.brought.address) call e)) ∙ h))

module _ (t u : Table) (w : Match t u) where
  module _ (call : Call) where
    ruled_same : ruled t call ≡ ruled u call
    ruled_same = go (clock_fits t.latest call.brought.reading) refl
      where
        go : (b : Bool) → clock_fits t.latest call.brought.reading ≡ b → ruled t call ≡ ruled u call
        go false e =
            clock_out t.latest (full t call.brought.reading call.brought.address) (shows t call.brought.reading call.brought.address) call e
            ∙ sym (clock_out u.latest (full u call.brought.reading call.brought.address) (shows u call.brought.reading call.brought.address) call
            (ap (λ (l : Tu). clock_fits l call.brought.reading) (sym w.latest) ∙ e))
        go true e =
            let v = alike_later w call.brought.reading (fits_later t.latest call.brought.reading e) in
            rw (alike_full v call.brought.address, v.shown call.brought.reading (omega arith) call.brought.address, w.latest)

    received_same : (x y : Reception) → Receives t call x.buffer x.received → Receives u call y.buffer y.received → SameReception x y
    received_same x y a b =
        record {
          answer = a.answer ∙ ap (λ (o : Outcome). o.answer) ruled_same ∙ sym b.answer;
          length = a.reply.tells ∙ ap (λ (o : Outcome). length o.reply) ruled_same ∙ sym b.reply.tells;
          buffer = a.reply.leaves ∙ ap (λ (o : Outcome). o.reply ++ drop (length o.reply) call.buffer) ruled_same ∙ sym b.reply.leaves;
          table = matches w call.brought.reading (late t call) a.dates
              (subst (λ (o : Outcome). Dates u call.brought.reading (answer_number o.answer) y.received.table) (sym ruled_same) b.dates) a.settles
              (subst (λ (o : Outcome). Settles u call.brought.address call.brought.reading o.leaves y.received.table) (sym ruled_same) b.settles);
        }

-- Removal and look_up ---------------------------------------------------------------------------------------------------------------------

-- an answer by its number
module _ {A : Type 0} (number : A → ℕ) (numbered : ℕ → A) (back : (a : A) → numbered (number a) ≡ a) where
  by_number : {x y : A} → number x ≡ number y → x ≡ y
  by_number {x} {y} e = sym (back x) ∙ ap numbered e ∙ back y

removal_by : ℕ → Removal
removal_by n = if eqb n 1 then Removal.ClockOut else (if eqb n 4 then Removal.GroupAddress else (if eqb n 17 then Removal.NoRecord else Removal.Removed))

removal_numbered : (a : Removal) → removal_by (removal_number a) ≡ a
unfolding removal_by
removal_numbered Removal.ClockOut = refl
removal_numbered Removal.GroupAddress = refl
removal_numbered Removal.NoRecord = refl
removal_numbered Removal.Removed = refl

look_by : ℕ → LookUp
look_by n = if eqb n 1 then LookUp.ClockOut else (if eqb n 4 then LookUp.GroupAddress else (if eqb n 17 then LookUp.NoRecord else LookUp.Shown))

look_numbered : (a : LookUp) → look_by (look_number a) ≡ a
unfolding look_by
look_numbered LookUp.ClockOut = refl
look_numbered LookUp.GroupAddress = refl
look_numbered LookUp.NoRecord = refl
look_numbered LookUp.Shown = refl

mic_by : ℕ → MicAnswer
mic_by n = if eqb n 19 then MicAnswer.Done else (if eqb n 2 then MicAnswer.BufferTooShort else MicAnswer.NoMic)

mic_numbered : (a : MicAnswer) → mic_by (mic_number a) ≡ a
unfolding mic_by
mic_numbered MicAnswer.Done = refl
mic_numbered MicAnswer.BufferTooShort = refl
mic_numbered MicAnswer.NoMic = refl

module _ (t u : Table) (w : Match t u) (address : List ℕ) (n : Tu) where
  -- at a reading that fits both show the same
  shown_same : clock_fits t.latest n ≡ true → shows t n address ≡ shows u n address
  shown_same e = w.shown n (fits_later t.latest n e) address

  -- so a number that looks at the record only there is the same
  number_same : (f : Option Peer → ℕ)
      → (if not (clock_fits t.latest n) then 1 else f (shows t n address)) ≡ (if not (clock_fits u.latest n) then 1 else f (shows u n address))
  number_same f = go (clock_fits t.latest n) refl ∙ ap (λ (l : Tu). if not (clock_fits l n) then 1 else f (shows u n address)) w.latest
    where
      go : (b : Bool) → clock_fits t.latest n ≡ b → (if not b then 1 else f (shows t n address)) ≡ (if not b then 1 else f (shows u n address))
      go true e = ap f (shown_same e)
      go false e = refl

  removed_same : (x y : Removed) → Removes t address n x → Removes u address n y → SameRemoval x y
  removed_same x y a b = record {
    answer = same_answer;
    table = matches w n (fits (clock_fits t.latest n) refl) a.dates
        (subst (λ (r : Removal). Dates u n (removal_number r) y.table) (sym same_answer) b.dates) a.settles
        (subst (λ (r : Removal). Settles u address n (left_by_removal r) y.table) (sym same_answer) b.settles);
  }
    where
      same_answer : x.answer ≡ y.answer
      same_answer = by_number removal_number removal_by removal_numbered (a.number ∙ number_same (λ own. if is_group_address address then 4 else (if is_none own then 17 else 16)) ∙ sym b.number)

      fits : (c : Bool) → clock_fits t.latest n ≡ c → is_early (removal_number x.answer) ≡ false → t.latest.0 ≤ n.0
      fits true c e = fits_later t.latest n c
      fits false c e =
          let z : removal_number x.answer ≡ 1 = a.number ∙ rw c in
          absurd (true≢false (sym (ap is_early z) ∙ e))

  looked_same : (x y : LookedUp) → LooksUp t address n x → LooksUp u address n y → x ≡ y
  looked_same x y a b =
      ap₂ (λ (r : LookUp) (p : Peer). record { answer = r; peer = p }) same_answer
      (peers x.answer a.number a.shown (subst (IsSeen (shows u n address) y.peer) (sym same_answer) b.shown))
    where
      same_answer : x.answer ≡ y.answer
      same_answer = by_number look_number look_by look_numbered (a.number ∙ number_same (λ own. if is_group_address address then 4 else (if is_none own then 17 else 18)) ∙ sym b.number)

      fits : (c : Bool) → clock_fits t.latest n ≡ c → 18 ≡ look_up_of t.latest n address (shows t n address) → shows t n address ≡ shows u n address
      fits true c e = shown_same c
      fits false c e = let z : ◌≡◌ {A = ℕ} 18 1 = e ∙ rw c in absurd (omega arith)

      peers : (r : LookUp) → look_number r ≡ look_up_of t.latest n address (shows t n address) → IsSeen (shows t n address) x.peer r → IsSeen (shows u n address) y.peer r → x.peer ≡ y.peer
      peers LookUp.ClockOut e p q = p ∙ sym q
      peers LookUp.GroupAddress e p q = p ∙ sym q
      peers LookUp.NoRecord e p q = p ∙ sym q
      peers LookUp.Shown e p q = some-injective x.peer y.peer (sym p ∙ fits (clock_fits t.latest n) refl e ∙ q)

pub outcomes_coincide : OutcomesCoincide
outcomes_coincide = record {
  empty = λ t u w r s x y. nobody_matches x y;
  receive = λ call t u w. received_same t u w call;
  remove = λ address n t u w. removed_same t u w address n;
  look_up = λ address n t u w. looked_same t u w address n;
  show_key = λ body t u w x y a b. a ∙ sym b;
  zero_mic = λ body before t u w x y a b. same_mic (a.number ∙ sym b.number) (a.octets ∙ sym b.octets);
  set_mic = λ before mic t u w x y a b. same_mic (a.number ∙ sym b.number) (a.octets ∙ sym b.octets);
}
  where
    same_mic : {x y : MicOutcome} → mic_number x.answer ≡ mic_number y.answer → x.buffer ≡ y.buffer → x ≡ y
    same_mic n e = ap₂ (λ (r : MicAnswer) (s : List ℕ). record { answer = r; buffer = s }) (by_number mic_number mic_by mic_numbered n) e
