-- A pass over the places: those that a test keeps stay, a record goes into the first other one, and the further ones are cleared.
use Prim.Native.Nat.{ℕ, suc, ◌+◌, ◌≤◌, ◌<◌}
use mathlib.Core.Path.{◌≡◌, refl, sym, ap, ◌∙◌}
use mathlib.Core.Bool.{Bool, true, false, ◌&&◌, false≢true}
use mathlib.Core.List.{List, [], ◌∷◌, ◌++◌, append-nil}
use Rattle.std.specs.Prelude.{None, Some, if◌then◌else◌}
use native.Mathlib.Numerals.{add-one}
use native.Mathlib.Omega.{arith}
use lib.ListN.{length, get_or, take, drop, set, length-set, drop_of_length-le}
use lib.Seq.{drop-cons, take_all, take-suc-set, drop-set-lt, append_snoc, set-get_or}
use Rattle.std.specs.List.{find, list_all, count_by}
use Rattle.octets.proofs.Logic.{both}
use Rattle.peers.specs.declared.Peer.{Peer}
use Rattle.peers.specs.declared.Table.{Table}
use Rattle.peers.specs.View.{vacant_peer, no_peer}
use Rattle.peers.proofs.Counting.{count_step}

module _ (keep : Peer → Bool) where
  unfoldable pub fill : Peer → List Peer → List Peer
  fill p [] = []
  fill p (q ∷ qs) = if keep q then q ∷ fill p qs else p ∷ fill vacant_peer qs

  pub fill_none : (p : Peer) (qs : List Peer) → list_all keep qs ≡ true → fill p qs ≡ qs
  unfolding fill
  fill_none p [] e = refl
  fill_none p (q ∷ qs) e =
      let h = both (keep q) (list_all keep qs) e in
      rw h.0 (ap (λ (l : List Peer). q ∷ l) (fill_none p qs h.1))

  pub fill_length : (p : Peer) (qs : List Peer) → length (fill p qs) ≡ length qs
  unfolding fill
  fill_length p [] = refl
  fill_length p (q ∷ qs) = go (λ x. fill_length x qs) (keep q)
    where
      go : ((x : Peer) → length (fill x qs) ≡ length qs) → (b : Bool) → length (if b then q ∷ fill p qs else p ∷ fill vacant_peer qs) ≡ length (q ∷ qs)
      go ih true = ap suc (ih p)
      go ih false = ap suc (ih vacant_peer)

  -- Where the pass stands at i, with `next` for the next place that is not kept.
  pub record Filling (p : Peer) (t : Table) (next : Peer) (u : Table) (i : ℕ) : Type 0 where
    pub places : length u.peers ≡ 16
    pub filled : take i u.peers ++ fill next (drop i u.peers) ≡ fill p t.peers
    pub latest : u.latest ≡ t.latest

  pub filling_begins : (p : Peer) (t : Table) → length t.peers ≡ 16 → Filling p t p t 0
  filling_begins p t l = record { places = l; filled = refl; latest = refl }

  module _ {p : Peer} {t : Table} {next : Peer} {u : Table} {i : ℕ} (w : Filling p t next u i) (h : i < 16) where
    -- a turn that leaves v at i, and `after` for the next place
    turn : (v after : Peer) → fill next (drop i u.peers) ≡ v ∷ fill after (drop (suc i) u.peers)
        → Filling p t after (record { peers = set u.peers i v; latest = u.latest }) (i + 1)
    turn v after e =
        let l : i < length u.peers = omega (arith, w.places) in
        record {
          places = length-set u.peers i v ∙ w.places;
          filled = rw (add-one, take-suc-set u.peers i v l, drop-set-lt (suc i) u.peers i v (omega arith), append_snoc, ← e) w.filled;
          latest = w.latest;
        }

    step : fill next (drop i u.peers) ≡ fill next (get_or u.peers i no_peer ∷ drop (suc i) u.peers)
    step = ap (fill next) (drop-cons u.peers i no_peer (omega (arith, w.places)))

    pub filling_keeps : keep (get_or u.peers i no_peer) ≡ true → Filling p t next u (i + 1)
    unfolding fill
    filling_keeps e = rw set-get_or at (turn (get_or u.peers i no_peer) next (step ∙ rw e))

    pub filling_stores : keep (get_or u.peers i no_peer) ≡ false
        → Filling p t vacant_peer (record { peers = set u.peers i next; latest = u.latest }) (i + 1)
    unfolding fill
    filling_stores e = turn next vacant_peer (step ∙ rw e)

  pub filling_ends : {p : Peer} {t : Table} {next : Peer} {u : Table} {i : ℕ} → Filling p t next u i → 16 ≤ i → u.peers ≡ fill p t.peers
  unfolding fill
  filling_ends {u} {i} w h =
      let l : length u.peers ≤ i = omega (arith, w.places) in
      sym (append-nil u.peers) ∙ rw (take_all i u.peers l, drop_of_length-le u.peers l) at w.filled

  module _ (g : Peer → Bool) (nobody : g vacant_peer ≡ false) where
    -- A search that finds none of the records that make way, nor the one stored, finds what it found.
    pub first_others : (p : Peer) (qs : List Peer) → ((q : Peer) → keep q ≡ false → g q ≡ false) → g p ≡ false → find g (fill p qs) ≡ find g qs
    unfolding fill
    first_others p [] way e = refl
    first_others p (q ∷ qs) way e = go (λ x k. first_others x qs way k) (keep q) refl
      where
        go : ((x : Peer) → g x ≡ false → find g (fill x qs) ≡ find g qs) → (b : Bool) → keep q ≡ b
            → find g (if b then q ∷ fill p qs else p ∷ fill vacant_peer qs) ≡ (if g q then Some q else find g qs)
        go ih true k = rw (ih p e)
        go ih false k = rw (e, way q k) (ih vacant_peer nobody)

    -- A search that finds none of the records kept finds the one stored, if any.
    module _ (stays : (q : Peer) → keep q ≡ true → g q ≡ false) where
      pub first_cleared : (qs : List Peer) → find g (fill vacant_peer qs) ≡ None
      unfolding fill
      first_cleared [] = refl
      first_cleared (q ∷ qs) = go (first_cleared qs) (keep q) refl
        where
          go : find g (fill vacant_peer qs) ≡ None → (b : Bool) → keep q ≡ b
              → find g (if b then q ∷ fill vacant_peer qs else vacant_peer ∷ fill vacant_peer qs) ≡ None
          go ih true k = rw (stays q k) ih
          go ih false k = rw nobody ih

      pub first_stored : (p : Peer) (qs : List Peer) → list_all keep qs ≡ false → find g (fill p qs) ≡ (if g p then Some p else None)
      unfolding fill
      first_stored p [] e = absurd (false≢true (sym e))
      first_stored p (q ∷ qs) e = go (first_stored p qs) (keep q) refl e
        where
          go : (list_all keep qs ≡ false → find g (fill p qs) ≡ (if g p then Some p else None)) → (b : Bool) → keep q ≡ b → b && list_all keep qs ≡ false
              → find g (if b then q ∷ fill p qs else p ∷ fill vacant_peer qs) ≡ (if g p then Some p else None)
          go ih true k e = rw (stays q k) (ih e)
          go ih false k e = rw (first_cleared qs)

  -- What g counts is what f counted, and the record stored: they agree on the records kept, and f counts none that makes way.
  module _ (f g : Peer → Bool) (nobody : g vacant_peer ≡ false) (stays : (q : Peer) → keep q ≡ true → g q ≡ f q)
      (goes : (q : Peer) → keep q ≡ false → f q ≡ false) where
    pub count_cleared : (qs : List Peer) → count_by g (fill vacant_peer qs) ≡ count_by f qs
    unfolding fill
    count_cleared [] = refl
    count_cleared (q ∷ qs) = rw (count_step f q qs) (go (count_cleared qs) (keep q) refl)
      where
        go : count_by g (fill vacant_peer qs) ≡ count_by f qs → (b : Bool) → keep q ≡ b
            → count_by g (if b then q ∷ fill vacant_peer qs else vacant_peer ∷ fill vacant_peer qs) ≡ (if f q then 1 else 0) + count_by f qs
        go ih true k = rw (count_step g q (fill vacant_peer qs), stays q k, ih)
        go ih false k = rw (count_step g vacant_peer (fill vacant_peer qs), nobody, goes q k) (omega arith)

    pub count_stored : (p : Peer) (qs : List Peer) → list_all keep qs ≡ false → count_by g (fill p qs) ≡ count_by f qs + (if g p then 1 else 0)
    unfolding fill
    count_stored p [] e = absurd (false≢true (sym e))
    count_stored p (q ∷ qs) e = rw (count_step f q qs) (go (count_stored p qs) (keep q) refl e)
      where
        go : (list_all keep qs ≡ false → count_by g (fill p qs) ≡ count_by f qs + (if g p then 1 else 0)) → (b : Bool) → keep q ≡ b → b && list_all keep qs ≡ false
            → count_by g (if b then q ∷ fill p qs else p ∷ fill vacant_peer qs) ≡ (if f q then 1 else 0) + count_by f qs + (if g p then 1 else 0)
        go ih true k e = rw (count_step g q (fill p qs), stays q k) (omega (arith, ih e))
        go ih false k e = rw (count_step g p (fill vacant_peer qs), goes q k, count_cleared qs) (omega arith)
