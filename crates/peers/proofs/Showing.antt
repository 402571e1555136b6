-- What a table shows after a pass over its places.
use Prim.Native.Nat.{ℕ, ◌+◌, ◌≤◌}
use mathlib.Core.Path.{◌≡◌, refl, ◌∙◌}
use mathlib.Core.Bool.{Bool, true, false, and-false}
use mathlib.Core.List.{List, ◌∷◌}
use mathlib.Core.Logic.{◌⊎◌, ⊎_elim}
use Rattle.std.specs.Prelude.{None, if◌then◌else◌}
use native.Mathlib.Omega.{arith}
use borrow.Author.Tests.{le-ltb, ltb-false}
use Rattle.octets.specs.Equality.{same_octets}
use Rattle.std.specs.List.{find, list_all, count_by}
use Rattle.octets.proofs.Equality.{same_eq}
use Rattle.units.specs.declared.Tu.{Tu}
use Rattle.peers.specs.declared.Peer.{Peer}
use Rattle.peers.specs.View.{until, live, is_of, own, other, vacant_peer}
use Rattle.peers.specs.Promises.{while_live}
use Rattle.peers.proofs.Filling.{fill, first_others, first_cleared, first_stored, count_cleared, count_stored}

-- a record that is not live stays so
pub dead_later : (p : Peer) (n m : Tu) → n.0 ≤ m.0 → live p n ≡ false → live p m ≡ false
dead_later p n m h e = le-ltb m.0 (until p.phase).0 (omega (arith, ltb-false n.0 (until p.phase).0 e))

module _ (m : Tu) where
  vacant_dead : live vacant_peer m ≡ false
  vacant_dead = le-ltb m.0 0 (omega arith)

  pub vacant_own : (a : List ℕ) → own m a vacant_peer ≡ false
  vacant_own a = rw vacant_dead (and-false (is_of vacant_peer a))

  pub vacant_other : (these : List (List ℕ)) → other m these vacant_peer ≡ false
  vacant_other these = rw vacant_dead

-- Each record kept is of another address, and each that makes way is of this one or not live.
module _ (keep : Peer → Bool) (a : List ℕ) (m : Tu) (stays : (q : Peer) → keep q ≡ true → is_of q a ≡ false)
    (goes : (q : Peer) → keep q ≡ false → (is_of q a ≡ true) ⊎ (live q m ≡ false)) where
  module _ (b : List ℕ) where
    own_stays : same_octets a b ≡ true → (q : Peer) → keep q ≡ true → own m b q ≡ false
    own_stays e q k = rw (← same_eq a b e, stays q k)

    own_goes : same_octets a b ≡ false → (q : Peer) → keep q ≡ false → own m b q ≡ false
    own_goes e q k = ⊎_elim (λ i. rw (same_eq q.address a i, e)) (λ d. rw d (and-false (is_of q b))) (goes q k)

    pub fill_shows : (p : Peer) (qs : List Peer) → p.address ≡ a → list_all keep qs ≡ false
        → find (own m b) (fill keep p qs) ≡ (if same_octets a b then while_live p m else find (own m b) qs)
    fill_shows p qs i e = go (same_octets a b) refl
      where
        go : (x : Bool) → same_octets a b ≡ x → find (own m b) (fill keep p qs) ≡ (if x then while_live p m else find (own m b) qs)
        go true k = first_stored keep (own m b) (vacant_own m b) (own_stays k) p qs e ∙ rw (i, k)
        go false k = first_others keep (own m b) (vacant_own m b) p qs (own_goes k) (rw (i, k))

    pub clear_shows : (qs : List Peer) → find (own m b) (fill keep vacant_peer qs) ≡ (if same_octets a b then None else find (own m b) qs)
    clear_shows qs = go (same_octets a b) refl
      where
        go : (x : Bool) → same_octets a b ≡ x → find (own m b) (fill keep vacant_peer qs) ≡ (if x then None else find (own m b) qs)
        go true k = first_cleared keep (own m b) (vacant_own m b) (own_stays k) qs
        go false k = first_others keep (own m b) (vacant_own m b) vacant_peer qs (own_goes k) (vacant_own m b)

  module _ (these : List (List ℕ)) where
    other_stays : (q : Peer) → keep q ≡ true → other m these q ≡ other m (a ∷ these) q
    other_stays q k = rw (stays q k)

    other_goes : (q : Peer) → keep q ≡ false → other m (a ∷ these) q ≡ false
    other_goes q k = ⊎_elim (λ i. rw i (and-false (live q m))) (λ d. rw d) (goes q k)

    pub fill_counts : (p : Peer) (qs : List Peer) → list_all keep qs ≡ false
        → count_by (other m these) (fill keep p qs) ≡ count_by (other m (a ∷ these)) qs + (if other m these p then 1 else 0)
    fill_counts = count_stored keep (other m (a ∷ these)) (other m these) (vacant_other m these) other_stays other_goes

    pub clear_counts : (qs : List Peer) → count_by (other m these) (fill keep vacant_peer qs) ≡ count_by (other m (a ∷ these)) qs
    clear_counts = count_cleared keep (other m (a ∷ these)) (other m these) (vacant_other m these) other_stays other_goes
