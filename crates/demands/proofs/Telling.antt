-- What the calls so far tell of the record that they leave: an exchange that waits since its first frame, or a key that is held.
use Prim.Native.Nat.{ℕ, ◌+◌, ◌<◌, ◌≤◌}
use mathlib.Core.Path.{◌≡◌, refl, sym, ap, subst, ◌∙◌}
use mathlib.Core.Bool.{true, false, false≢true}
use mathlib.Core.List.{List, [], ◌∷◌, ◌++◌, append_assoc, append-nil}
use Rattle.std.specs.Prelude.{Option, None, Some}
use native.Mathlib.Omega.{arith}
use borrow.Author.Tests.{ltb-true}
use lib.Dec.{eqb}
use Rattle.octets.proofs.Choice.{either_way}
use Rattle.units.specs.declared.Tu.{Tu}
use Rattle.units.specs.Units.{in_tu, clock_limit}
use Rattle.peers.specs.declared.Peer.{Peer}
use Rattle.peers.specs.declared.Phase.{Phase}
use Rattle.peers.specs.declared.Phase.TheVariants.{Waiting, Installed}
use Rattle.peers.specs.View.{until, live}
use Rattle.rules.specs.OnePeer.{Call, Left, same, answer_number, peer_after, is_waiting, waiting_peer, installed_peer, is_group_address, remove_of}
use Rattle.rules.specs.Alone.{Ask, receive, remove, look_up, whose, reading_of, Alone, live_at, outcome_for, removal_leaves, leaves, next, unknown, alone_after}
use Rattle.octets.specs.Search.{Each}
use Rattle.demands.specs.Served.{From, last_from}
use Rattle.demands.specs.InstalledKey.{Makes, waiting_since, Spares, is_removal, Holds}
use Rattle.demands.proofs.Outcomes.{Kind, keeps, ends, begins, installs, kind_of}
use Rattle.demands.proofs.Latest.{date_after, clock_fits_within, leaves_dated, makes_dated}
use Rattle.demands.proofs.Leaving.{Alive, alive_is, FirstMade, first_made}
use Rattle.demands.proofs.Order.{each_snoc, next_append}

holds_longer : {done : List Ask} {n : Tu} {p : Peer} (ask : Ask) → is_removal ask ≡ false → Holds done n p → Holds (done ++ (ask ∷ [])) n p
holds_longer ask r h = record {
  before = h.before;
  first = h.first;
  between = h.between;
  third = h.third;
  since = h.since ++ (ask ∷ []);
  split = rw h.split (simp append_assoc);
  exchange = h.exchange;
  accepted = h.accepted;
  before_deadline = h.before_deadline;
  third_accepted = h.third_accepted;
  undisturbed = h.undisturbed;
  not_removed = each_snoc (λ (ask : Ask). is_removal ask ≡ false) h.since ask h.not_removed r;
  end_ahead = h.end_ahead;
}

module _ (a : List ℕ) where
  -- x waits, by the calls up to the reading n
  pub record Waits (done : List Ask) (n : Tu) (x : Peer) : Type 0 where
    pub before : List Ask
    pub first : Call
    pub between : List Ask
    pub split : done ≡ before ++ (receive first ∷ between)
    pub accepted : Makes 0 (alone_after before) first x
    pub undisturbed : Each (Spares first x) between
    pub owner : first.brought.address ≡ a
    pub since : first.brought.reading.0 ≤ n.0

  -- p is installed, by the calls
  pub record Keyed (done : List Ask) (p : Peer) : Type 0 where
    pub holds : (n : Tu) → live p n ≡ true → Holds done n p
    pub no_group : is_group_address a ≡ false

  abbrev pub Told : List Ask → Tu → Peer → Phase → Type 0
  Told done n p (Waiting deadline) = Waits done n p
  Told done n p (Installed end) = Keyed done p

  abbrev pub Story : List Ask → Tu → Option Peer → Type 0
  Story done n None = Unit {0}
  Story done n (Some p) = Told done n p p.phase

  waits_made : {done : List Ask} {n : Tu} {x : Peer} (w : Waits done n x) → FirstMade w.first x
  waits_made w = first_made w.first w.accepted

  module _ (done : List Ask) (n : Tu) where
    abbrev s : Alone
    s = alone_after done

    told_of_no_group : (p : Peer) (phase : Phase) → Told done n p phase → is_group_address a ≡ false
    told_of_no_group p (Waiting deadline) w = ap is_group_address (sym w.owner) ∙ (waits_made w).no_group
    told_of_no_group p (Installed end) w = w.no_group

    waits_for : (p : Peer) (phase : Phase) → is_waiting phase ≡ true → Told done n p phase → Waits done n p
    waits_for p (Waiting deadline) e w = w
    waits_for p (Installed end) e w = absurd (false≢true e)

    module _ (l : s.latest.0 ≤ n.0) (w : Story done n s.peer) where
      -- a call that leaves the record the same
      stays : (ask : Ask) → n.0 ≤ (reading_of ask).0 → (reading_of ask).0 ≤ clock_limit → is_removal ask ≡ false → leaves s ask ≡ same
          → Story (done ++ (ask ∷ [])) (reading_of ask) (live_at s.peer (reading_of ask))
      stays ask h k r e = go s.peer refl w
        where
          grow : (p : Peer) → s.peer ≡ Some p → (phase : Phase) → Told done n p phase → Told (done ++ (ask ∷ [])) (reading_of ask) p phase
          grow p q (Waiting deadline) w = record {
            before = w.before;
            first = w.first;
            between = w.between ++ (ask ∷ []);
            split = rw w.split (simp append_assoc);
            accepted = w.accepted;
            undisturbed = each_snoc (Spares w.first p) w.between ask w.undisturbed
                (rw (leaves_dated (waiting_since w.first p) s (sym q) ask (omega (arith, w.since)) (omega arith) k, e));
            owner = w.owner;
            since = omega (arith, w.since);
          }
          grow p q (Installed end) w = record { holds = λ m d. holds_longer ask r (w.holds m d); no_group = w.no_group }

          go : (o : Option Peer) → s.peer ≡ o → Story done n o → Story (done ++ (ask ∷ [])) (reading_of ask) (live_at o (reading_of ask))
          go None q w = tt
          go (Some p) q w = either_way (Story (done ++ (ask ∷ [])) (reading_of ask)) (live p (reading_of ask)) (λ _. grow p q p.phase w) (λ _. tt)

      removed : (m : Tu) → n.0 ≤ m.0 → m.0 ≤ clock_limit → Story (done ++ (remove a m ∷ [])) m (next s (remove a m)).peer
      removed m h k = go (live_at s.peer m) refl
        where
          go : (o : Option Peer) → live_at s.peer m ≡ o → Story (done ++ (remove a m ∷ [])) m (peer_after o (removal_leaves (remove_of s.latest m a o)))
          go None q = either_way (λ (left : Left). Story (done ++ (remove a m ∷ [])) m (peer_after None left)) (eqb (remove_of s.latest m a None) 16) (λ _. tt) (λ _. tt)
          go (Some p) q =
              let g = told_of_no_group p p.phase (subst (Story done n) (alive_is s.peer m q).is w) in
              rw (clock_fits_within s.latest m (omega arith) k, g) tt

      module _ (frame : Call) (h : n.0 ≤ frame.brought.reading.0) (k : frame.brought.reading.0 ≤ clock_limit) (i : frame.brought.address ≡ a) where
        abbrev m : Tu
        m = frame.brought.reading

        abbrev more : List Ask
        more = done ++ (receive frame ∷ [])

        begun : (x : Peer) → Makes 0 s frame x → Waits more m x
        begun x v = record { before = done; first = frame; between = []; split = refl; accepted = v; undisturbed = tt; owner = i; since = omega arith }

        keyed : (x : Peer) → Alive s.peer m x → Waits done n x → Makes 15 s frame (installed_peer m x) → Keyed more (installed_peer m x)
        keyed x v w t = record {
          holds = λ j d. record {
            before = w.before;
            first = w.first;
            between = w.between;
            third = frame;
            since = [];
            split = rw w.split (simp append_assoc);
            exchange = x;
            accepted = w.accepted;
            before_deadline = omega (arith, subst (λ (p : Phase). m.0 < (until p).0) (waits_made w).phase (ltb-true m.0 (until x.phase).0 v.alive));
            third_accepted = makes_dated (waiting_since w.first x) s (sym v.is) frame (omega (arith, w.since)) (omega arith) k t;
            undisturbed = w.undisturbed;
            not_removed = tt;
            end_ahead = omega (arith, ltb-true j.0 (m.0 + (in_tu x.agreed.lifetime).0) d);
          };
          no_group = ap is_group_address (sym w.owner) ∙ (waits_made w).no_group;
        }

        received : Story more m (next s (receive frame)).peer
        received = go (kind_of frame s.latest _ (live_at s.peer m))
          where
            go : Kind frame (live_at s.peer m) (outcome_for s frame) → Story more m (peer_after (live_at s.peer m) (outcome_for s frame).leaves)
            go (keeps e) = rw e (stays (receive frame) h k refl e)
            go (ends j e) = rw e tt
            go (begins passed j g t e) = rw e (begun (waiting_peer frame.brought passed) (record { answer = ap answer_number t; made = e }))
            go (installs x q v t e) =
                let z = alive_is s.peer m q in
                rw e (keyed x z (waits_for x x.phase v (subst (Story done n) z.is w)) (record { answer = ap answer_number t; made = e }))

      story_next : (ask : Ask) → n.0 ≤ (reading_of ask).0 → (reading_of ask).0 ≤ clock_limit → whose ask ≡ a → Story (done ++ (ask ∷ [])) (reading_of ask) (next s ask).peer
      story_next (receive frame) h k i = received frame h k i
      story_next (remove b m) h k i = rw i (removed m h k)
      story_next (look_up b m) h k i = stays (look_up b m) h k refl refl

  pub story : (rest done : List Ask) (n : Tu) → (alone_after done).latest.0 ≤ n.0 → Story done n (alone_after done).peer → From n rest → Each (λ (ask : Ask). whose ask ≡ a) rest
      → Story (done ++ rest) (last_from n rest) (alone_after (done ++ rest)).peer
  story [] done n l w f i = rw append-nil w
  story (ask ∷ rest) done n l w f i =
      let e = next_append unknown done (ask ∷ []) in
      rw append_assoc at (story rest (done ++ (ask ∷ [])) (reading_of ask) (rw e (date_after (alone_after done) ask (omega (arith, f.0)))) (rw e (story_next done n l w ask f.0 f.1 i.0)) f.2 i.1)
