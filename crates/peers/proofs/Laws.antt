-- Laws of what tables show, for the crates above.
use Prim.Native.Nat.{ℕ, ◌≤◌, ◌<◌}
use mathlib.Core.Path.{◌≡◌, refl, sym, ap, ◌∙◌}
use mathlib.Core.Bool.{Bool, true, false, ◌&&◌, and-true, and-false, false≢true}
use mathlib.Core.List.{List, [], ◌∷◌}
use Rattle.std.specs.Prelude.{Option, None, Some, is_none}
use native.Mathlib.Omega.{arith}
use lib.Dec.{eqb}
use borrow.Author.Tests.{eqb-true}
use Rattle.octets.proofs.Equality.{same_refl, same_eq}
use Rattle.octets.proofs.Logic.{both}
use Rattle.units.specs.declared.Tu.{Tu}
use Rattle.peers.specs.declared.Peer.{Peer}
use Rattle.peers.specs.declared.Table.{Table}
use Rattle.peers.specs.View.{live, is_of, own, shows, others, full}
use Rattle.peers.specs.Promises.{Puts, Drops, while_live}
use Rattle.peers.specs.Alike.{Alike}
use Rattle.peers.proofs.Counting.{first_passes, first_stricter}
use Rattle.peers.proofs.Showing.{dead_later}

-- What is shown is a live record of the address.
pub record Shown (n : Tu) (a : List ℕ) (p : Peer) : Type 0 where
  pub address : p.address ≡ a
  pub alive : live p n ≡ true

module _ (t : Table) (n : Tu) (a : List ℕ) where
  pub shown_is : {p : Peer} → shows t n a ≡ Some p → Shown n a p
  unfolding shows
  shown_is {p} e =
      let h = both (is_of p a) (live p n) (first_passes (own n a) t.peers p e) in
      record { address = same_eq p.address a h.0; alive = h.1 }

  -- a record that is gone stays gone
  pub none_later : shows t n a ≡ None → (m : Tu) → n.0 ≤ m.0 → shows t m a ≡ None
  unfolding shows
  none_later e m h = first_stricter (own n a) (own m a) earlier t.peers e
    where
      earlier : (p : Peer) → own n a p ≡ false → own m a p ≡ false
      earlier p k = go (live p n) refl k
        where
          go : (x : Bool) → live p n ≡ x → is_of p a && x ≡ false → is_of p a && live p m ≡ false
          go true d k = rw (sym (and-true (is_of p a)) ∙ k)
          go false d k = rw (dead_later p n m h d) (and-false (is_of p a))

  pub record Full : Type 0 where
    pub nobody : shows t n a ≡ None
    pub sixteen : others t n (a ∷ []) ≡ 16

  pub full_is : full t n a ≡ true → Full
  unfolding full
  full_is e = go (shows t n a) refl e
    where
      go : (o : Option Peer) → shows t n a ≡ o → is_none o && eqb (others t n (a ∷ [])) 16 ≡ true → Full
      go None k e = record { nobody = k; sixteen = eqb-true (others t n (a ∷ [])) 16 e }
      go (Some p) k e = absurd (false≢true e)

  -- A table is not full for an address that it shows.
  pub full_shown : {p : Peer} → shows t n a ≡ Some p → full t n a ≡ false
  unfolding full
  full_shown e = rw e

  -- So the record that is shown can always be replaced.
  pub full_again : {q : Peer} → shows t n a ≡ Some q → (p : Peer) → p.address ≡ q.address → full t n p.address ≡ false
  full_again e p i = ap (full t n) (i ∙ (shown_is e).address) ∙ full_shown e

  -- Nor is it full where fewer than sixteen others are live.
  pub full_fewer : others t n (a ∷ []) < 16 → full t n a ≡ false
  full_fewer h = go (full t n a) refl
    where
      go : (x : Bool) → full t n a ≡ x → x ≡ false
      go true e = absurd (omega (arith, (full_is e).sixteen))
      go false e = refl

module _ {t : Table} {p : Peer} {r : Table} (w : Puts t p r) where
  -- Every other address shows what it showed, whether the table is full or not, and whichever place was free.
  pub put_others : (m : Tu) → t.latest.0 ≤ m.0 → (b : List ℕ) → is_of p b ≡ false → shows r m b ≡ shows t m b
  put_others m h b e = go (full t t.latest p.address) refl
    where
      go : (x : Bool) → full t t.latest p.address ≡ x → shows r m b ≡ shows t m b
      go true f = ap (λ (u : Table). shows u m b) (w.kept f)
      go false f = w.shown f m h b ∙ rw e

  -- its own address shows the record, while it is live
  pub put_own : full t t.latest p.address ≡ false → (m : Tu) → t.latest.0 ≤ m.0 → shows r m p.address ≡ while_live p m
  put_own f m h = w.shown f m h p.address ∙ rw (same_refl p.address)

-- Tables that are alike stay so: no promise tells a place.
pub alike_same : (n : Tu) (t : Table) → Alike n t t
alike_same n t = record { shown = λ m h a. refl; counted = λ m h these. refl; latest = refl }

module _ {n : Tu} {t u : Table} (w : Alike n t u) where
  pub alike_later : (m : Tu) → n.0 ≤ m.0 → Alike m t u
  alike_later m h = record {
    shown = λ k l a. w.shown k (omega arith) a;
    counted = λ k l these. w.counted k (omega arith) these;
    latest = w.latest;
  }

  pub alike_full : (a : List ℕ) → full t n a ≡ full u n a
  unfolding full
  alike_full a = rw (w.shown n (omega arith) a, w.counted n (omega arith) (a ∷ []))

  pub alike_drop : {a : List ℕ} {r s : Table} → Drops t a r → Drops u a s → Alike n r s
  alike_drop {a} x y = record {
    shown = λ m h b. x.shown m b ∙ rw (w.shown m h b) (sym (y.shown m b));
    counted = λ m h these. x.counted m these ∙ w.counted m h (a ∷ these) ∙ sym (y.counted m these);
    latest = x.latest ∙ w.latest ∙ sym y.latest;
  }

pub alike_put : {t u : Table} {p : Peer} {r s : Table} → Alike t.latest t u → Puts t p r → Puts u p s → Alike t.latest r s
alike_put {t} {u} {p} {r} {s} w x y = go (full t t.latest p.address) refl
  where
    there : {b : Bool} → full t t.latest p.address ≡ b → full u u.latest p.address ≡ b
    there f = ap (λ (n : Tu). full u n p.address) (sym w.latest) ∙ sym (alike_full w p.address) ∙ f

    go : (b : Bool) → full t t.latest p.address ≡ b → Alike t.latest r s
    go true f = rw (x.kept f, y.kept (there f)) w
    go false f = record {
      shown = λ m h a. x.shown f m h a ∙ rw (w.shown m h a) (sym (y.shown (there f) m (rw w.latest at h) a));
      counted = λ m h these. x.counted f m h these ∙ rw (w.counted m h (p.address ∷ these)) (sym (y.counted (there f) m (rw w.latest at h) these));
      latest = x.latest ∙ w.latest ∙ sym y.latest;
    }
