-- Removal and look-up, by their checks and by what the search found.
use Rattle.std.proofs.Common.{ℕ, ◌≡◌, not, List, refl, sym, ap, ◌∙◌, if◌then◌else◌}
use Rattle.std.specs.Prelude.{Option, None, Some, is_none, Result, Ok, Err}
use Rattle.octets.proofs.Choice.{either_way}
use Rattle.units.specs.declared.Tu.{Tu}
use Rattle.peers.specs.declared.Peer.{Peer}
use Rattle.peers.specs.declared.Table.{Table}
use Rattle.peers.specs.declared.Found.{Found}
use Rattle.peers.specs.declared.Found.TheVariants.{At, Free, Full}
use Rattle.peers.specs.Promises.{shown_at, Drops}
use Rattle.peers.specs.View.{shows, dated, vacant_peer}
use Rattle.rules.specs.OnePeer.{clock_fits, is_group_address, asked}
use Rattle.rules.specs.declared.Removal.{Removal}
use Rattle.rules.specs.declared.LookUp.{LookUp}
use Rattle.checks.specs.declared.Barred.{Barred}
use Rattle.checks.specs.Checked.{barred_of, removal_of, look_up_of}
use Rattle.platform.specs.Promises.{Removes, LooksUp}
use Rattle.platform.proofs.Settling.{dates_early, dates_late, settles_none, settles_same, settles_gone}

-- where a search found no place, there is no record
pub nowhere : (t : Table) (found : Found) → ((i : ℕ) → found ≡ At i → ⊥) → shown_at t found ≡ None
nowhere t (At i) h = absurd (h i refl)
nowhere t Free h = refl
nowhere t Full h = refl

-- the number, by the check
abbrev numbered : Result (Unit {0}) Barred → ℕ → ℕ
numbered (Err Barred.ClockOut) number = 1
numbered (Err Barred.GroupAddress) number = 4
numbered (Ok passed) number = number

module _ (t : Table) (address : List ℕ) (n : Tu) where
  abbrev check : Result (Unit {0}) Barred
  check = barred_of t.latest n address

  abbrev own : Option Peer
  own = shows t n address

  by_check : (number : ℕ) → numbered check number ≡ asked t.latest n address number
  unfolding barred_of
  by_check number =
      either_way (λ (r : Result (Unit {0}) Barred). numbered r number ≡ asked t.latest n address number) (not (clock_fits t.latest n)) (λ c. sym (rw c)) λ c.
      either_way (λ (r : Result (Unit {0}) Barred). numbered r number ≡ asked t.latest n address number) (is_group_address address) (λ g. sym (rw (c, g))) (λ g. sym (rw (c, g)))

  told : {k : Result (Unit {0}) Barred} (number : ℕ) → check ≡ k → numbered k number ≡ asked t.latest n address number
  told number e = ap (λ (r : Result (Unit {0}) Barred). numbered r number) (sym e) ∙ by_check number

  abbrev removal : Option Peer → ℕ
  removal o = if is_none o then 17 else 16

  abbrev look : Option Peer → ℕ
  look o = if is_none o then 17 else 18

  pub removes_barred : (b : Barred) → check ≡ Err b → Removes t address n (record { table = t; answer = removal_of b })
  removes_barred Barred.ClockOut e = record { number = told (removal own) e; dates = dates_early t n refl; settles = settles_none t address n }
  removes_barred Barred.GroupAddress e = record { number = told (removal own) e; dates = dates_early t n refl; settles = settles_none t address n }

  pub looks_barred : (b : Barred) → check ≡ Err b → LooksUp t address n (record { answer = look_up_of b; peer = vacant_peer })
  looks_barred Barred.ClockOut e = record { number = told (look own) e; shown = refl }
  looks_barred Barred.GroupAddress e = record { number = told (look own) e; shown = refl }

  module _ {u : Unit {0}} (e : check ≡ Ok u) where
    module _ (nobody : own ≡ None) where
      pub removes_none : Removes t address n (record { table = dated t n; answer = Removal.NoRecord })
      removes_none = record { number = sym (ap removal nobody) ∙ told (removal own) e; dates = dates_late t refl refl; settles = settles_same t address n }

      pub looks_none : LooksUp t address n (record { answer = LookUp.NoRecord; peer = vacant_peer })
      looks_none = record { number = sym (ap look nobody) ∙ told (look own) e; shown = refl }

    module _ {p : Peer} (shown : own ≡ Some p) where
      pub removes_some : {r : Table} → Drops (dated t n) address r → Removes t address n (record { table = r; answer = Removal.Removed })
      removes_some d = record { number = sym (ap removal shown) ∙ told (removal own) e; dates = dates_late t refl d.latest; settles = settles_gone t address n d }

      pub looks_some : LooksUp t address n (record { answer = LookUp.Shown; peer = p })
      looks_some = record { number = sym (ap look shown) ∙ told (look own) e; shown = shown }
