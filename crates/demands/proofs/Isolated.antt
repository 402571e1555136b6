-- Isolation: the table and its peer alone go on in step.
use Prim.Native.Nat.{ℕ, ◌≤◌}
use mathlib.Core.Path.{◌≡◌, refl, sym, ap, subst, ◌∙◌}
use mathlib.Core.Bool.{Bool, true, false}
use mathlib.Core.List.{List, ◌∷◌, Memᴰ}
use Rattle.std.specs.Prelude.{Option, None, Some, if◌then◌else◌}
use native.Mathlib.Omega.{arith}
use lib.ListN.{length}
use Rattle.octets.specs.Equality.{same_octets}
use Rattle.octets.proofs.Equality.{same_eq}
use Rattle.units.specs.declared.Tu.{Tu}
use Rattle.peers.specs.declared.Peer.{Peer}
use Rattle.peers.specs.declared.Table.{Table}
use Rattle.peers.specs.View.{live, shows}
use Rattle.peers.specs.Promises.{while_live}
use Rattle.peers.proofs.Few.{Few, few_nobody, few_later, few_room}
use Rattle.peers.proofs.Showing.{dead_later}
use Rattle.rules.specs.OnePeer.{Left, same, gone, becomes, peer_after}
use Rattle.platform.specs.Promises.{shown_after}
use Rattle.rules.specs.Alone.{Ask, whose, reading_of, Got, Alone, live_at, gets, leaves, next, gets_all, next_all, unknown}
use Rattle.octets.specs.Search.{Each}
use Rattle.demands.specs.Served.{Runs, ends, goes, zero_tu, From, last_from, Served, asks_of, got_by}
use Rattle.demands.specs.Isolation.{Isolation, NeverFull}
use Rattle.demands.proofs.Latest.{date_after}
use Rattle.demands.proofs.Room.{few_settles}
use Rattle.demands.proofs.Stepping.{Stepped, stepped}

-- a record that is live later is live now
live_twice : (o : Option Peer) (n m : Tu) → n.0 ≤ m.0 → live_at (live_at o n) m ≡ live_at o m
live_twice None n m h = refl
live_twice (Some p) n m h = go (live p n) refl
  where
    go : (b : Bool) → live p n ≡ b → live_at (if b then Some p else None) m ≡ while_live p m
    go true e = refl
    go false e = rw (dead_later p n m h e)

live_after : (o : Option Peer) (n m : Tu) → n.0 ≤ m.0 → (left : Left) → shown_after (live_at o m) m left ≡ live_at (peer_after (live_at o n) left) m
live_after o n m h same = sym (live_twice o n m h)
live_after o n m h gone = refl
live_after o n m h (becomes p) = refl

module _ (addresses : List (List ℕ)) (few : length addresses ≤ 16) (a : List ℕ) where
  -- the table and a alone, at a reading
  record InStep (n : Tu) (t : Table) (s : Alone) : Type 0 where
    shown : (m : Tu) → n.0 ≤ m.0 → shows t m a ≡ live_at s.peer m
    room : Few addresses n t
    latest : t.latest.0 ≤ n.0
    latest_alone : s.latest.0 ≤ n.0

  module _ {n : Tu} {t u : Table} {s : Alone} {ask : Ask} {got : Got} (w : InStep n t s) (h : n.0 ≤ (reading_of ask).0) (i : Memᴰ (whose ask) addresses) (d : Stepped t ask got u) where
    room_after : Few addresses (reading_of ask) u
    room_after = few_settles few (few_later w.room (reading_of ask) h) i d.left d.made d.settles

    -- another's call
    passes : same_octets (whose ask) a ≡ false → InStep (reading_of ask) u s
    passes e = record {
      shown = λ m k. d.settles.shown m k a ∙ (rw e (w.shown m (omega arith)));
      room = room_after;
      latest = d.latest;
      latest_alone = omega (arith, w.latest_alone);
    }

    module _ (e : same_octets (whose ask) a ≡ true) where
      alone : (got ≡ gets s ask) × (d.left ≡ leaves s ask)
      alone = d.alone s (omega (arith, w.latest_alone)) (subst (λ (b : List ℕ). shows t (reading_of ask) b ≡ live_at s.peer (reading_of ask)) (sym (same_eq (whose ask) a e)) (w.shown (reading_of ask) h))

      follows : InStep (reading_of ask) u (next s ask)
      follows = record {
        shown = λ m k. d.settles.shown m k a
            ∙ (rw (e, w.shown m (omega arith), alone.1) (live_after s.peer (reading_of ask) m k (leaves s ask)));
        room = room_after;
        latest = d.latest;
        latest_alone = date_after s ask (omega (arith, w.latest_alone));
      }

  record Kept (n : Tu) (s : Alone) (asks : List Ask) (gots : List Got) (end : Table) : Type 0 where
    answers : got_by a asks gots ≡ gets_all s (asks_of a asks)
    shown : (m : Tu) → (last_from n asks).0 ≤ m.0 → shows end m a ≡ live_at (next_all s (asks_of a asks)).peer m
    room : Few addresses (last_from n asks) end

  kept : {n : Tu} {t end : Table} {s : Alone} {asks : List Ask} {gots : List Got} → InStep n t s → Runs t asks gots end → From n asks
      → Each (λ (ask : Ask). Memᴰ (whose ask) addresses) asks → Kept n s asks gots end
  kept w ends f l = record { answers = refl; shown = w.shown; room = w.room }
  kept {n} {t} {end} {s} w (goes {u = u} {ask = ask} {got = got} {asks = asks} {gots = gots} x r) f l =
      go (same_octets (whose ask) a) refl (λ (s : Alone) (v : InStep (reading_of ask) u s). kept v r f.2 l.1)
    where
      d : Stepped t ask got u
      d = stepped (omega (arith, w.latest, f.0)) f.1 (few_room (few_later w.room (reading_of ask) f.0) l.0 few) x

      go : (b : Bool) → same_octets (whose ask) a ≡ b → ((s : Alone) → InStep (reading_of ask) u s → Kept (reading_of ask) s asks gots end)
          → Kept n s (ask ∷ asks) (got ∷ gots) end
      go true e ih =
          let v = ih (next s ask) (follows w f.0 l.0 d e) in
          record { answers = rw (e, (alone w f.0 l.0 d e).0) (ap (λ (g : List Got). gets s ask ∷ g) v.answers); shown = rw e v.shown; room = v.room }
      go false e ih =
          let v = ih s (passes w f.0 l.0 d e) in
          record { answers = rw e v.answers; shown = rw e v.shown; room = v.room }

served_kept : {asks : List Ask} {gots : List Got} {end : Table} (w : Served asks gots end) (a : List ℕ)
    → Kept w.addresses w.few a zero_tu unknown asks gots end
served_kept w a = kept w.addresses w.few a (record {
  shown = λ m h. w.nobody.shown m a;
  room = few_nobody w.nobody zero_tu;
  latest = rw w.nobody.latest (omega arith);
  latest_alone = omega arith;
}) w.run w.in_order w.of_these

pub isolation : Isolation
isolation asks gots end w a =
    let k = served_kept w a in
    record { answers = k.answers; shown = k.shown }

pub never_full : NeverFull
never_full asks gots end w n h a i = few_room (few_later (served_kept w a).room n h) i w.few
