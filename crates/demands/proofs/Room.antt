-- A step of one of a few addresses leaves the records few.
use Prim.Native.Nat.{ℕ, ◌+◌, ◌≤◌}
use mathlib.Core.Path.{◌≡◌, refl, sym, ap, subst, ◌∙◌}
use mathlib.Core.Bool.{false, true≢false}
use mathlib.Core.List.{List, ◌∷◌, Memᴰ}
use native.Mathlib.Omega.{arith}
use lib.ListN.{length}
use Rattle.std.specs.Prelude.{if◌then◌else◌}
use Rattle.octets.specs.Equality.{same_octets}
use Rattle.units.specs.declared.Tu.{Tu}
use Rattle.peers.specs.declared.Peer.{Peer}
use Rattle.peers.specs.declared.Table.{Table}
use Rattle.peers.specs.View.{other, shows, others, full, dated}
use Rattle.peers.specs.Promises.{while_live, Puts}
use Rattle.peers.proofs.Few.{Few, outside_fewer, few_put, few_room}
use Rattle.rules.specs.OnePeer.{Left, same, gone, becomes}
use Rattle.platform.specs.Promises.{Settles}

-- a record that a step makes is of its address
abbrev pub OfAddress : List ℕ → Left → Type 0
OfAddress a same = Unit {0}
OfAddress a gone = Unit {0}
OfAddress a (becomes p) = p.address ≡ a

module _ {addresses : List (List ℕ)} {n : Tu} {t r : Table} {a : List ℕ} (few : length addresses ≤ 16) (w : Few addresses n t) (i : Memᴰ a addresses) where
  few_becomes : (p : Peer) → p.address ≡ a → Settles t a n (becomes p) r → Few addresses n r
  unfolding shows others full
  few_becomes p e s =
      let f : full t n p.address ≡ false = ap (full t n) e ∙ few_room w i few in
      let put : Puts (dated t n) p (dated r n) = record {
        kept = λ k. absurd (true≢false (sym k ∙ f));
        shown = λ _ m h b. s.shown m h b ∙ ap (λ (l : List ℕ). if same_octets l b then while_live p m else shows t m b) (sym e);
        counted = λ _ m h these. s.counted m h these ∙ ap (λ (l : List ℕ). others t m (l ∷ these) + (if other m these p then 1 else 0)) (sym e);
        latest = refl;
      } in
      record { few = (few_put {t = dated t n} (record { few = w.few }) (subst (λ (b : List ℕ). Memᴰ b addresses) (sym e) i) put).few }

  pub few_settles : (left : Left) → OfAddress a left → Settles t a n left r → Few addresses n r
  few_settles same o s = record { few = λ m h these. omega (arith, s.counted m h these, w.few m h these) }
  few_settles gone o s = record {
    few = λ m h these.
        omega (arith, s.counted m h these, w.few m h (a ∷ these), outside_fewer a these addresses);
  }
  few_settles (becomes p) o s = few_becomes p o s
