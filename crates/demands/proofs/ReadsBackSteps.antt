-- What a second frame can tell of a first frame that passed the steps.
use mathlib.Core.Path.{◌≡◌, refl, sym, subst}
use mathlib.Core.Bool.{Bool, true}
use mathlib.Core.List.{List}
use Rattle.std.specs.Prelude.{Option, None, Some}
use Prim.Native.Nat.{ℕ, ◌*◌, ◌^◌, ◌<◌, ◌≤◌}
use native.Mathlib.Omega.{arith}
use lib.Dec.{ltb}
use lib.ListN.{length}
use borrow.Author.Tests.{ltb-true}
use Rattle.units.specs.declared.Seconds.{Seconds}
use Rattle.suites.specs.declared.Group.{Group}
use Rattle.suites.specs.declared.Suite.TheVariants.{Ours}
use Rattle.suites.specs.Tables.{groups, group_of}
use Rattle.suites.proofs.Laws.{found_in}
use Rattle.frames.specs.declared.first.Facts.{Facts}
use Rattle.frames.proofs.first.Laws.{Asks, first_asks}
use Rattle.rules.specs.declared.Brought.{Brought}
use Rattle.rules.specs.declared.Passed.{Passed}
use Rattle.rules.specs.declared.Settings.{Settings}
use Rattle.rules.specs.declared.Suites.{Suites}
use Rattle.rules.specs.OnePeer.{passed_with, listed, lifetime_of, settings_fit}
use Rattle.rules.proofs.Checks.{settings_range}
use Rattle.rules.proofs.Inversion.{Sixteen, Passes}

-- a group of the table is the one that was asked for, and a number of two octets
record GroupIs (number : ℕ) (group : Group) : Type 0 where
  same_group : group.number ≡ number
  two_octets : group.number < 2 ^ 16

group_is : (number : ℕ) {group : Group} → group_of number ≡ Some group → GroupIs number group
unfolding group_of
group_is number {group} q =
    let p = found_in (λ (x : Group). x.number) groups number (λ x. ltb x.number (2 ^ 16)) refl group q in
    record { same_group = p.0; two_octets = ltb-true group.number (2 ^ 16) p.1 }

-- a PMKID or none is listed
record Lists (s : List ℕ) : Type 0 where
  count : ℕ
  whole : length s ≡ 16 * count
  one : count ≤ 1

lists : (suites : Suites) (group : Group) (pmkid : Option (List ℕ)) (lifetime : Seconds) → Sixteen pmkid → Lists (listed (passed_with suites group pmkid lifetime))
lists suites group None lifetime h = record { count = 0; whole = refl; one = omega arith }
lists suites group (Some pmkid) lifetime h = record { count = 1; whole = omega (arith, h); one = omega arith }

-- a lifetime that a second frame can tell
record Tells (l : Seconds) : Type 0 where
  some_second : 0 < l.0
  four_octets : l.0 < 2 ^ 32

lifetime_tells : (settings : Settings) (l : Option Seconds) → settings_fit settings ≡ true → Asks l → Tells (lifetime_of settings.lifetime l)
lifetime_tells settings l fit a = go l a
  where
    go : (l : Option Seconds) → Asks l → Tells (lifetime_of settings.lifetime l)
    go (Some s) a = let r = settings_range settings fit in record { some_second = omega (arith, r); four_octets = omega (arith, r) }
    go None a = let r = settings_range settings fit in record { some_second = r.some_second; four_octets = omega (arith, r) }

-- what the second frame says of the first
pub record Chose (brought : Brought) (passed : Passed) (first : Facts) : Type 0 where
  pub cipher : first.rsne.pairwise ≡ Some (Ours passed.agreed.cipher)
  pub akm : first.rsne.akm ≡ Some (Ours passed.agreed.akm)
  pub group : passed.group.number ≡ first.group
  pub group_fits : passed.group.number < 2 ^ 16
  pub pmkids : ℕ
  pub whole_pmkids : length (listed passed) ≡ 16 * pmkids
  pub one_pmkid : pmkids ≤ 1
  pub lifetime : passed.agreed.lifetime ≡ lifetime_of brought.settings.lifetime first.lifetime
  pub asked : 0 < passed.agreed.lifetime.0
  pub lifetime_fits : passed.agreed.lifetime.0 < 2 ^ 32

pub chose : {brought : Brought} {body : List ℕ} {full : Bool} {passed : Passed} → settings_fit brought.settings ≡ true → (v : Passes brought body full passed)
    → Chose brought passed v.facts
chose {brought} {body} fit v =
    let g = group_is v.facts.group v.grouped in
    let p = lists v.suites v.group v.pmkid (lifetime_of brought.settings.lifetime v.facts.lifetime) v.one in
    let l = lifetime_tells brought.settings v.facts.lifetime fit (first_asks body v.read) in
    subst (λ (passed : Passed). Chose brought passed v.facts) (sym v.is) (record {
      cipher = v.of.cipher;
      akm = v.of.akm;
      group = g.same_group;
      group_fits = g.two_octets;
      pmkids = p.count;
      whole_pmkids = p.whole;
      one_pmkid = p.one;
      lifetime = refl;
      asked = l.some_second;
      lifetime_fits = l.four_octets;
    })
