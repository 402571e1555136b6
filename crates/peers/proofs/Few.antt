-- A table whose records are all of a few addresses has room for each of them.
use Prim.Native.Nat.{ℕ, ◌+◌, ◌≤◌}
use mathlib.Core.Path.{◌≡◌, refl}
use mathlib.Core.Bool.{Bool, true, false, ◌&&◌, not, and-false}
use mathlib.Core.List.{List, [], ◌∷◌, Memᴰ}
use native.Mathlib.Omega.{arith}
use lib.ListN.{length}
use Rattle.std.specs.Prelude.{if◌then◌else◌}
use Rattle.octets.specs.Equality.{same_octets}
use Rattle.std.specs.List.{list_all, count_by}
use Rattle.std.proofs.lemmas.List.Sums.{count_by-le-length}
use Rattle.octets.proofs.Equality.{same_refl}
use Rattle.units.specs.declared.Tu.{Tu}
use Rattle.peers.specs.declared.Peer.{Peer}
use Rattle.peers.specs.declared.Table.{Table}
use Rattle.peers.specs.View.{live, others, full}
use Rattle.peers.specs.Promises.{Nobody, Puts, Drops}
use Rattle.peers.proofs.Counting.{count_step, count_stricter}
use Rattle.peers.proofs.Laws.{full_fewer}

-- an address that is none of these
abbrev pub outside : List (List ℕ) → List ℕ → Bool
outside these b = list_all (λ a. not (same_octets b a)) these

-- From n on there is at most one live record to each of the addresses, and none to another.
pub record Few (addresses : List (List ℕ)) (n : Tu) (t : Table) : Type 0 where
  pub few : (m : Tu) → n.0 ≤ m.0 → (these : List (List ℕ)) → others t m these ≤ count_by (outside these) addresses

both_fewer : (x y : Bool) → (if x && y then 1 else 0) ≤ (if y then 1 else 0)
both_fewer true y = omega arith
both_fewer false true = omega arith
both_fewer false false = omega arith

module _ (a : List ℕ) (these : List (List ℕ)) where
  pub outside_fewer : (bs : List (List ℕ)) → count_by (outside (a ∷ these)) bs ≤ count_by (outside these) bs
  outside_fewer bs = count_stricter (outside these) (outside (a ∷ these)) (λ b e. rw e (and-false (not (same_octets b a)))) bs

  -- a is one of them, so that leaving it out makes one fewer
  outside_member : {bs : List (List ℕ)} → Memᴰ a bs → count_by (outside (a ∷ these)) bs + (if outside these a then 1 else 0) ≤ count_by (outside these) bs
  outside_member (Memᴰ.head {x = b} {xs = bs} e) =
      rw (count_step (outside (a ∷ these)) b bs, count_step (outside these) b bs, ← e, same_refl a) (omega (arith, outside_fewer bs))
  outside_member (Memᴰ.tail {x = b} {xs = bs} i) =
      rw (count_step (outside (a ∷ these)) b bs, count_step (outside these) b bs)
      (omega (arith, both_fewer (not (same_octets b a)) (outside these b), outside_member i))

module _ {addresses : List (List ℕ)} where
  pub few_nobody : {t : Table} → Nobody t → (n : Tu) → Few addresses n t
  few_nobody w n = record { few = λ m h these. omega (arith, w.counted m these) }

  module _ {n : Tu} {t : Table} (w : Few addresses n t) where
    pub few_later : (m : Tu) → n.0 ≤ m.0 → Few addresses m t
    few_later m h = record { few = λ k l these. w.few k (omega arith) these }

    pub few_drop : {a : List ℕ} {r : Table} → Drops t a r → Few addresses n r
    few_drop {a} x = record {
      few = λ m h these. omega (arith, x.counted m these, w.few m h (a ∷ these), outside_fewer a these addresses);
    }

    -- At most sixteen addresses never fill a table for one of them.
    pub few_room : {a : List ℕ} → Memᴰ a addresses → length addresses ≤ 16 → full t n a ≡ false
    few_room {a} i h = full_fewer t n a (omega (arith, w.few n (omega arith) (a ∷ []), outside_member a [] i, count_by-le-length (outside []) addresses))

  pub few_put : {t r : Table} {p : Peer} → Few addresses t.latest t → Memᴰ p.address addresses → Puts t p r → Few addresses t.latest r
  few_put {t} {r} {p} w i x = go (full t t.latest p.address) refl
    where
      go : (b : Bool) → full t t.latest p.address ≡ b → Few addresses t.latest r
      go true f = rw (x.kept f) w
      go false f = record {
        few = λ m h these.
            let one = both_fewer (live p m) (outside these p.address) in
            omega (arith, x.counted f m h these, w.few m h (p.address ∷ these), outside_member p.address these i);
      }
