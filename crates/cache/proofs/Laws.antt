-- What is known of a choice.
use mathlib.Core.Path.{◌≡◌, refl, sym, ap, ◌∙◌, subst}
use mathlib.Core.Bool.{Bool, true, false, ◌&&◌}
use mathlib.Core.List.{List, [], ◌∷◌}
use Rattle.std.specs.Prelude.{Option, None, Some, if◌then◌else◌}
use Rattle.octets.proofs.Options.{some-injective, none-ne-some}
use Prim.Native.Nat.{ℕ, suc, ◌+◌, ◌-◌, ◌≤◌, ◌<◌}
use native.Mathlib.Nat.{sub-zero}
use native.Mathlib.Omega.{arith}
use borrow.Author.Tests.{eqb-true, ltb-true}
use lib.Dec.{eqb, ltb}
use lib.ListN.{length, get_or}
use Rattle.octets.specs.Equality.{same_octets}
use Rattle.std.specs.List.{slice_get}
use Rattle.std.specs.Option.{option_map_or}
use Rattle.octets.proofs.Equality.{same_eq}
use Rattle.octets.proofs.Logic.{both}
use Rattle.units.specs.declared.Tu.{Tu}
use Rattle.cache.specs.declared.Choice.{Choice}
use Rattle.cache.specs.File.{Cached}
use Rattle.cache.specs.Search.{end_of, matches, found_of, choice_from, choice_of}

-- What was found: it stands in the list, by its place, with that PMKID, the same AKM and an end later than the reading.
pub record Matched (cs : List Cached) (pmkid : List ℕ) (akm : ℕ) (reading : Tu) (c : Cached) : Type 0 where
  pub place : ℕ
  pub stands : slice_get cs place ≡ Some c
  pub same_pmkid : c.pmkid ≡ pmkid
  pub same_akm : c.akm ≡ akm
  pub later : reading.0 < c.end

module _ (pmkid : List ℕ) (akm : ℕ) (reading : Tu) where
  pub matched : (cs : List Cached) (c : Cached) → found_of cs pmkid akm reading ≡ Some c → Matched cs pmkid akm reading c
  unfolding found_of
  matched [] c e = absurd (none-ne-some c e)
  matched (d ∷ cs) c e = go (matched cs c) (matches pmkid akm reading d) refl e
    where
      go : (found_of cs pmkid akm reading ≡ Some c → Matched cs pmkid akm reading c) → (b : Bool) → matches pmkid akm reading d ≡ b
          → (if b then Some d else found_of cs pmkid akm reading) ≡ Some c → Matched (d ∷ cs) pmkid akm reading c
      go ih true m e =
          let t = both (same_octets d.pmkid pmkid) (eqb d.akm akm && ltb reading.0 d.end) m in
          let u = both (eqb d.akm akm) (ltb reading.0 d.end) t.1 in
          let s = some-injective d c e in
          record {
            place = 0;
            stands = e;
            same_pmkid = ap (λ (c : Cached). c.pmkid) (sym s) ∙ same_eq d.pmkid pmkid t.0;
            same_akm = ap (λ (c : Cached). c.akm) (sym s) ∙ eqb-true d.akm akm u.0;
            later = subst (λ (c : Cached). reading.0 < c.end) s (ltb-true reading.0 d.end u.1);
          }
      go ih false m e =
          let r = ih e in
          record { place = suc r.place; stands = r.stands; same_pmkid = r.same_pmkid; same_akm = r.same_akm; later = r.later }

-- What was chosen: the PMKID of number k is in the list, a record matches it, and the end told is the record's.
pub record Chosen (cs : List Cached) (pmkids : List (List ℕ)) (akm : ℕ) (reading : Tu) (k : ℕ) (end : Tu) : Type 0 where
  pub listed : k < length pmkids
  pub cached : Cached
  pub found : Matched cs (get_or pmkids k []) akm reading cached
  pub told : end.0 ≡ cached.end

abbrev choice : ℕ → Tu → Choice
choice k end = record { pmkid = k; end = end }

module _ (cs : List Cached) (akm : ℕ) (reading : Tu) {k : ℕ} {end : Tu} where
  chosen_from : (j : ℕ) (pmkids : List (List ℕ)) → choice_from j cs pmkids akm reading ≡ Some (choice k end)
      → (j ≤ k) × Chosen cs pmkids akm reading (k - j) end
  unfolding choice_from
  chosen_from j [] e = cc
  chosen_from j (p ∷ ps) e = go (chosen_from (j + 1) ps) (found_of cs p akm reading) refl e
    where
      go : (choice_from (j + 1) cs ps akm reading ≡ Some (choice k end) → (j + 1 ≤ k) × Chosen cs ps akm reading (k - (j + 1)) end)
          → (o : Option Cached) → found_of cs p akm reading ≡ o
          → option_map_or (λ c. Some (choice j (end_of c))) o (choice_from (j + 1) cs ps akm reading) ≡ Some (choice k end)
          → (j ≤ k) × Chosen cs (p ∷ ps) akm reading (k - j) end
      go ih None q e =
          let r = ih e in
          let n : suc (k - (j + 1)) ≡ k - j = omega (arith, r.0) in
          let d = r.1 in (
            omega (arith, r.0),
            subst (λ (n : ℕ). Chosen cs (p ∷ ps) akm reading n end) n
                (record { listed = omega (arith, d.listed); cached = d.cached; found = d.found; told = d.told }),
          )
      go ih (Some c) q e =
          let same = some-injective (choice j (end_of c)) (choice k end) e in
          let m : j ≡ k = ap (λ (c : Choice). c.pmkid) same in
          let n : 0 ≡ k - j = omega arith in (
            omega arith,
            subst (λ (n : ℕ). Chosen cs (p ∷ ps) akm reading n end) n
                (record { listed = omega arith; cached = c; found = matched p akm reading cs c q; told = sym (ap (λ (c : Choice). c.end.0) same) }),
          )

  pub chosen : (pmkids : List (List ℕ)) → choice_of cs pmkids akm reading ≡ Some (choice k end) → Chosen cs pmkids akm reading k end
  unfolding choice_of
  chosen pmkids e = subst (λ (n : ℕ). Chosen cs pmkids akm reading n end) (sub-zero k) (chosen_from 0 pmkids e).1
