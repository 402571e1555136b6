-- The latest reading of a peer alone: no call in order moves it past its own reading, and nothing that it gets depends on it.
use Prim.Native.Nat.{ℕ, ◌≤◌}
use mathlib.Core.Path.{◌≡◌, refl, ap, ◌∙◌}
use mathlib.Core.Bool.{Bool, true, ◌&&◌}
use mathlib.Core.List.{List}
use Rattle.std.specs.Prelude.{Option}
use native.Mathlib.Omega.{arith}
use borrow.Author.Tests.{le-leb}
use lib.Dec.{leb}
use Rattle.octets.proofs.Choice.{either_way}
use Rattle.units.specs.declared.Tu.{Tu}
use Rattle.units.specs.Units.{clock_limit}
use Rattle.peers.specs.declared.Peer.{Peer}
use Rattle.rules.specs.OnePeer.{Call, Outcome, answer_number, clock_fits, checks, receive_of, remove_of, look_up_of}
use Rattle.rules.specs.Alone.{Ask, receive, remove, look_up, reading_of, Alone, live_at, outcome_for, removal_for, removal_leaves, leaves, dated, latest_after}
use Rattle.demands.specs.InstalledKey.{Makes}

pub date_after : (s : Alone) (ask : Ask) → s.latest.0 ≤ (reading_of ask).0 → (latest_after s ask).0 ≤ (reading_of ask).0
date_after s ask h = go ask h
  where
    by : (n : Tu) → s.latest.0 ≤ n.0 → (number : ℕ) → (dated s.latest n number).0 ≤ n.0
    by n h number = either_way (λ (l : Tu). l.0 ≤ n.0) (leb 1 number && leb number 5) (λ _. h) (λ _. omega arith)

    go : (ask : Ask) → s.latest.0 ≤ (reading_of ask).0 → (latest_after s ask).0 ≤ (reading_of ask).0
    go (receive frame) h = by frame.brought.reading h (answer_number (outcome_for s frame).answer)
    go (remove a n) h = by n h (removal_for s a n)
    go (look_up a n) h = h

pub clock_fits_within : (l n : Tu) → l.0 ≤ n.0 → n.0 ≤ clock_limit → clock_fits l n ≡ true
clock_fits_within l n h k = rw (le-leb l.0 n.0 h, le-leb n.0 clock_limit k)

module _ (l k n : Tu) (h : l.0 ≤ n.0) (i : k.0 ≤ n.0) (j : n.0 ≤ clock_limit) where
  pub receive_dated : (full : Bool) (own : Option Peer) (call : Call) → call.brought.reading ≡ n → receive_of l full own call ≡ receive_of k full own call
  unfolding receive_of checks
  receive_dated full own call e = rw (e, clock_fits_within l n h j, clock_fits_within k n i j)

  pub remove_dated : (a : List ℕ) (own : Option Peer) → remove_of l n a own ≡ remove_of k n a own
  remove_dated a own = rw (clock_fits_within l n h j, clock_fits_within k n i j)

  pub look_dated : (a : List ℕ) (own : Option Peer) → look_up_of l n a own ≡ look_up_of k n a own
  look_dated a own = rw (clock_fits_within l n h j, clock_fits_within k n i j)

module _ (s u : Alone) (e : s.peer ≡ u.peer) where
  outcome_dated : (frame : Call) → s.latest.0 ≤ frame.brought.reading.0 → u.latest.0 ≤ frame.brought.reading.0 → frame.brought.reading.0 ≤ clock_limit
      → outcome_for s frame ≡ outcome_for u frame
  outcome_dated frame h k l =
      let n = frame.brought.reading in
      receive_dated s.latest u.latest n h k l _ (live_at s.peer n) frame refl
      ∙ ap (λ (o : Option Peer). outcome_for (record { latest = u.latest; peer = o }) frame) e

  pub leaves_dated : (ask : Ask) → s.latest.0 ≤ (reading_of ask).0 → u.latest.0 ≤ (reading_of ask).0 → (reading_of ask).0 ≤ clock_limit → leaves s ask ≡ leaves u ask
  leaves_dated (receive frame) h k l = ap (λ (o : Outcome). o.leaves) (outcome_dated frame h k l)
  leaves_dated (remove a n) h k l =
      ap removal_leaves (remove_dated s.latest u.latest n h k l a (live_at s.peer n)
      ∙ ap (λ (o : Option Peer). remove_of u.latest n a (live_at o n)) e)
  leaves_dated (look_up a n) h k l = refl

  pub makes_dated : {number : ℕ} {p : Peer} (frame : Call) → s.latest.0 ≤ frame.brought.reading.0 → u.latest.0 ≤ frame.brought.reading.0
      → frame.brought.reading.0 ≤ clock_limit → Makes number u frame p → Makes number s frame p
  makes_dated frame h k l w =
      let q = outcome_dated frame h k l in
      record { answer = ap (λ (o : Outcome). answer_number o.answer) q ∙ w.answer; made = ap (λ (o : Outcome). o.leaves) q ∙ w.made }
