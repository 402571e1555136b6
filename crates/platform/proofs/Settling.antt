-- What is shown once a verdict is settled.
use Rattle.std.proofs.Common.{ℕ, ◌+◌, ◌≡◌, Bool, true, false, List, ◌∷◌, if◌then◌else◌, refl, sym, ap, ◌∙◌}
use mathlib.Core.Bool.{true≢false}
use Rattle.octets.specs.Equality.{same_octets}
use Rattle.units.specs.declared.Tu.{Tu}
use Rattle.peers.specs.declared.Peer.{Peer}
use Rattle.peers.specs.declared.Table.{Table}
use Rattle.peers.specs.Promises.{while_live, Puts, Drops}
use Rattle.peers.specs.View.{other, shows, others, full, dated}
use Rattle.rules.specs.declared.Leaves.{Leaves}
use Rattle.rules.specs.OnePeer.{Left, same, gone, becomes, is_early}
use Rattle.rules.specs.Told.{leaves_of}
use Rattle.platform.specs.Inside.{Seats, Settled}
use Rattle.platform.specs.Promises.{Settles, Dates}

either : {A : Type 0} (b : Bool) (x : A) → x ≡ (if b then x else x)
either true x = refl
either false x = refl

module _ (t : Table) where
  pub dates_early : (n : Tu) {number : ℕ} → is_early number ≡ true → Dates t n number t
  dates_early n e = record { early = λ h. refl; latest = λ h. absurd (true≢false (sym e ∙ h)) }

  pub dates_late : {n : Tu} {number : ℕ} {r : Table} → is_early number ≡ false → r.latest ≡ n → Dates t n number r
  dates_late e l = record { early = λ h. absurd (true≢false (sym h ∙ e)); latest = λ h. l }

module _ (t : Table) (a : List ℕ) (n : Tu) where
  pub settles_same : {l : Tu} → Settles t a n same (dated t l)
  unfolding shows others
  settles_same = record { shown = λ m h b. either (same_octets a b) (shows t m b); counted = λ m h these. refl }

  -- a table that stays
  pub settles_none : Settles t a n same t
  settles_none = settles_same {l = t.latest}

  pub settles_gone : {l : Tu} {r : Table} → Drops (dated t l) a r → Settles t a n gone r
  unfolding shows others
  settles_gone d = record { shown = λ m h b. d.shown m b; counted = λ m h these. d.counted m these }

  pub settles_becomes : {r : Table} (p : Peer) → p.address ≡ a → full t n a ≡ false → Puts (dated t n) p r → Settles t a n (becomes p) r
  unfolding shows others full
  settles_becomes p e f u =
      let g : full t n p.address ≡ false = ap (full t n) e ∙ f in
      record {
        shown = λ m h b. u.shown g m h b ∙ ap (λ (l : List ℕ). if same_octets l b then while_live p m else shows t m b) e;
        counted = λ m h these. u.counted g m h these ∙ ap (λ (l : List ℕ). others t m (l ∷ these) + (if other m these p then 1 else 0)) e;
      }

  -- what the rules leave, once it is so
  pub settles_left : {r : Table} (l : Left) → Seats a (full t n a) l → Settled (leaves_of l) a (dated t n) r → Settles t a n l r
  settles_left same s e = rw e settles_same
  settles_left gone s d = settles_gone d
  settles_left (becomes p) s u = settles_becomes p s.0 s.1 u

pub settled_latest : (t : Table) (a : List ℕ) (r : Table) (leaves : Leaves) → Settled leaves a t r → r.latest ≡ t.latest
settled_latest t a r Leaves.Same e = ap (λ (u : Table). u.latest) e
settled_latest t a r Leaves.Gone d = d.latest
settled_latest t a r (Leaves.Becomes p) u = u.latest
