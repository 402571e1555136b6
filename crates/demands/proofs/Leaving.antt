-- What a call of a peer alone leaves: how records are made, and that only a removal ends an installed one.
use Prim.Native.Nat.{ℕ, ◌<◌, ◌≤◌}
use mathlib.Core.Path.{◌≡◌, refl, sym, ap, ◌∙◌}
use mathlib.Core.Bool.{Bool, true, false, true≢false}
use Rattle.std.specs.Prelude.{Option, None, Some, if◌then◌else◌}
use Rattle.octets.proofs.Options.{some-injective, none-ne-some}
use native.Mathlib.Omega.{arith}
use borrow.Author.Tests.{ltb-true, lt-ltb}
use Rattle.units.specs.declared.Tu.{Tu}
use Rattle.peers.specs.declared.Peer.{Peer}
use Rattle.peers.specs.declared.Phase.{Phase}
use Rattle.peers.specs.declared.Phase.TheVariants.{Waiting, Installed}
use Rattle.peers.specs.View.{until, live}
use Rattle.rules.specs.OnePeer.{Call, same, after, is_waiting, is_installed, installed_peer, is_group_address}
use Rattle.rules.specs.Alone.{Ask, receive, remove, look_up, reading_of, Alone, live_at, outcome_for, leaves}
use Rattle.demands.specs.InstalledKey.{Makes, is_removal}
use Rattle.demands.proofs.Outcomes.{Kind, keeps, ends, begins, installs, kind_of, Made, begun, installed, made_of}

pub live_earlier : (p : Peer) (n m : Tu) → n.0 ≤ m.0 → live p m ≡ true → live p n ≡ true
live_earlier p n m h e = lt-ltb n.0 (until p.phase).0 (omega (arith, ltb-true m.0 (until p.phase).0 e))

pub live_by : (p : Peer) {phase : Phase} (n : Tu) → p.phase ≡ phase → n.0 < (until phase).0 → live p n ≡ true
live_by p {phase} n e h = rw e (lt-ltb n.0 (until phase).0 h)

-- the record is p, and live
pub record Alive (o : Option Peer) (n : Tu) (p : Peer) : Type 0 where
  pub is : o ≡ Some p
  pub alive : live p n ≡ true

pub alive_is : (o : Option Peer) (n : Tu) {p : Peer} → live_at o n ≡ Some p → Alive o n p
alive_is None n {p} e = absurd (none-ne-some p e)
alive_is (Some q) n {p} e = go (live q n) refl e
  where
    go : (b : Bool) → live q n ≡ b → (if b then Some q else None) ≡ Some p → Alive (Some q) n p
    go true l e = record { is = e; alive = ap (λ (x : Peer). live x n) (sym (some-injective q p e)) ∙ l }
    go false l e = absurd (none-ne-some p e)

pub alive_at : {o : Option Peer} {n : Tu} {p : Peer} → Alive o n p → live_at o n ≡ Some p
alive_at {n = n} w = rw (w.is, w.alive)

-- an accepted first frame's record waits, and its address is no group's
pub record FirstMade (frame : Call) (p : Peer) : Type 0 where
  pub phase : p.phase ≡ Waiting (after frame.brought.reading frame.brought.settings.deadline)
  pub no_group : is_group_address frame.brought.address ≡ false

module _ {s : Alone} (frame : Call) {p : Peer} where
  how : {number : ℕ} → Makes number s frame p → Made frame (live_at s.peer frame.brought.reading) number p
  how w = made_of (kind_of frame s.latest _ (live_at s.peer frame.brought.reading)) w.answer w.made

  pub first_made : Makes 0 s frame p → FirstMade frame p
  first_made w = go (how w)
    where
      go : Made frame (live_at s.peer frame.brought.reading) 0 p → FirstMade frame p
      go (begun passed g i e) = record { phase = ap (λ (q : Peer). q.phase) e; no_group = g }
      go (installed x q i e) = absurd (omega (arith, i))

  -- an accepted third frame's is the one that waited, installed
  pub third_made : {x : Peer} → Alive s.peer frame.brought.reading x → Makes 15 s frame p → p ≡ installed_peer frame.brought.reading x
  third_made {x} v w = go (how w)
    where
      go : Made frame (live_at s.peer frame.brought.reading) 15 p → p ≡ installed_peer frame.brought.reading x
      go (begun passed g i e) = absurd (omega (arith, i))
      go (installed y q i e) = e ∙ ap (installed_peer frame.brought.reading) (some-injective y x (sym q ∙ alive_at v))

-- only a removal ends an installed record before its end
pub installed_stays : (s : Alone) (ask : Ask) (p : Peer) (end : Tu) → p.phase ≡ Installed end → live_at s.peer (reading_of ask) ≡ Some p → is_removal ask ≡ false
    → leaves s ask ≡ same
installed_stays s (receive frame) p end e h r = go (kind_of frame s.latest _ (live_at s.peer frame.brought.reading))
  where
    held : is_installed (live_at s.peer frame.brought.reading) ≡ true
    held = rw (h, e)

    go : Kind frame (live_at s.peer frame.brought.reading) (outcome_for s frame) → (outcome_for s frame).leaves ≡ same
    go (keeps e) = e
    go (ends i e) = absurd (true≢false (sym held ∙ i))
    go (begins passed i g a e) = absurd (true≢false (sym held ∙ i))
    go (installs q k w a l) =
        let z : is_waiting q.phase ≡ false = ap (λ (x : Peer). is_waiting x.phase) (some-injective q p (sym k ∙ h)) ∙ ap is_waiting e in
        absurd (true≢false (sym w ∙ z))
installed_stays s (remove a n) p end e h r = absurd (true≢false r)
installed_stays s (look_up a n) p end e h r = refl
