-- The operations leave what they promise.
use Prim.Native.Nat.{ℕ, ◌≤◌}
use mathlib.Core.Path.{◌≡◌, refl, sym, ap, ap₂, ◌∙◌}
use mathlib.Core.Bool.{Bool, true, false, ◌&&◌, not, and-false, false≢true}
use mathlib.Core.List.{List, [], ◌∷◌}
use mathlib.Core.Logic.{◌⊎◌, inl, inr}
use native.Mathlib.Omega.{arith}
use Rattle.std.specs.Prelude.{is_none}
use lib.Dec.{eqb}
use lib.ListN.{length, replicate}
use borrow.Author.Tests.{eq-eqb, ne_eqb, not-true, not-false}
use Rattle.std.specs.List.{find, list_all, count_by}
use Rattle.octets.proofs.Logic.{both}
use Rattle.units.specs.declared.Tu.{Tu}
use Rattle.peers.specs.declared.Peer.{Peer}
use Rattle.peers.specs.declared.Table.{Table}
use Rattle.peers.specs.View.{live, is_of, own, other, shows, others, full, vacant_peer}
use Rattle.peers.specs.Promises.{Nobody, Puts, Drops}
use Rattle.peers.proofs.Counting.{count_all, count_fewer, first_none, first_repeated, count_repeated}
use Rattle.peers.proofs.Filling.{fill, fill_none}
use Rattle.peers.proofs.Showing.{dead_later, vacant_own, vacant_other, fill_shows, clear_shows, fill_counts, clear_counts}

pub nobody : (v : Peer) → v ≡ vacant_peer → Nobody (record { peers = replicate 16 v; latest = record { 0 = 0 } })
unfolding shows others
nobody v e = record {
  shown = λ n a. first_repeated (own n a) v 16 (rw e (vacant_own n a));
  counted = λ n these. count_repeated (other n these) v 16 (rw e (vacant_other n these));
  latest = refl;
}

-- `drop` keeps the records of other addresses.
module _ (a : List ℕ) where
  abbrev pub elsewhere : Peer → Bool
  elsewhere q = not (is_of q a)

  elsewhere_stays : (q : Peer) → elsewhere q ≡ true → is_of q a ≡ false
  elsewhere_stays q k = not-true (is_of q a) k

  elsewhere_goes : (m : Tu) (q : Peer) → elsewhere q ≡ false → (is_of q a ≡ true) ⊎ (live q m ≡ false)
  elsewhere_goes m q k = inl (not-false (is_of q a) k)

  pub drops : (t u : Table) → u.peers ≡ fill elsewhere vacant_peer t.peers → u.latest ≡ t.latest → Drops t a u
  unfolding shows others
  drops t u e l = record {
    shown = λ m b. ap (find (own m b)) e ∙ clear_shows elsewhere a m elsewhere_stays (elsewhere_goes m) b t.peers;
    counted = λ m these. ap (count_by (other m these)) e ∙ clear_counts elsewhere a m elsewhere_stays (elsewhere_goes m) these t.peers;
    latest = l;
  }

-- `put` keeps the live records of other addresses.
module _ (n : Tu) (a : List ℕ) where
  abbrev pub taken : Peer → Bool
  taken = other n (a ∷ [])

  taken_stays : (q : Peer) → taken q ≡ true → is_of q a ≡ false
  taken_stays q k = not-true (is_of q a) (both (not (is_of q a)) true (both (live q n) (not (is_of q a) && true) k).1).0

  taken_goes : (m : Tu) → n.0 ≤ m.0 → (q : Peer) → taken q ≡ false → (is_of q a ≡ true) ⊎ (live q m ≡ false)
  taken_goes m h q k = go (live q n) refl (is_of q a) refl k
    where
      go : (x : Bool) → live q n ≡ x → (y : Bool) → is_of q a ≡ y → x && (not y && true) ≡ false → (is_of q a ≡ true) ⊎ (live q m ≡ false)
      go false d y i k = inr (dead_later q n m h d)
      go true d true i k = inl i
      go true d false i k = absurd (false≢true (sym k))

  module _ (t : Table) (l : length t.peers ≡ 16) where
    -- A table of sixteen places is full if each is taken.
    pub full_taken : full t n a ≡ list_all taken t.peers
    unfolding full shows others
    full_taken = go (list_all taken t.peers) refl
      where
        misses : (q : Peer) → taken q ≡ true → own n a q ≡ false
        misses q k = rw (taken_stays q k)

        go : (x : Bool) → list_all taken t.peers ≡ x → (is_none (find (own n a) t.peers) && eqb (count_by taken t.peers) 16) ≡ x
        go true e = rw (first_none taken (own n a) misses t.peers e, eq-eqb (count_by taken t.peers) 16 (count_all taken t.peers e ∙ l))
        go false e =
            rw (ne_eqb (count_by taken t.peers) 16 (λ k. omega (arith, count_fewer taken t.peers e))) (and-false (is_none (find (own n a) t.peers)))

module _ (t : Table) (l : length t.peers ≡ 16) (p : Peer) where
  abbrev n : Tu
  n = t.latest

  abbrev keep : Peer → Bool
  keep = taken n p.address

  kept_all : {x : Bool} → full t n p.address ≡ x → list_all keep t.peers ≡ x
  kept_all f = sym (full_taken n p.address t l) ∙ f

  pub puts : (u : Table) → u.peers ≡ fill keep p t.peers → u.latest ≡ t.latest → Puts t p u
  unfolding shows others
  puts u e k = record {
    kept = λ f. ap₂ (λ (ps : List Peer) (x : Tu). record { peers = ps; latest = x }) (e ∙ fill_none keep p t.peers (kept_all f)) k;
    shown = λ f m h b. ap (find (own m b)) e ∙ fill_shows keep p.address m stays (goes m h) b p t.peers refl (kept_all f);
    counted = λ f m h these. ap (count_by (other m these)) e ∙ fill_counts keep p.address m stays (goes m h) these p t.peers (kept_all f);
    latest = k;
  }
    where
      stays : (q : Peer) → keep q ≡ true → is_of q p.address ≡ false
      stays = taken_stays n p.address

      goes : (m : Tu) → n.0 ≤ m.0 → (q : Peer) → keep q ≡ false → (is_of q p.address ≡ true) ⊎ (live q m ≡ false)
      goes = taken_goes n p.address
