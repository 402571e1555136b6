-- Laws of the searches: of the file for one record, and of the list of PMKIDs.
use mathlib.Core.Path.{◌≡◌, refl, sym, ap, ◌∙◌}
use mathlib.Core.Bool.{Bool, true, false}
use mathlib.Core.List.{List, [], ◌∷◌, map}
use Prim.Native.Nat.{ℕ, ◌+◌, ◌≤◌, ◌<◌}
use native.Mathlib.Numerals.{add-one}
use native.Mathlib.Omega.{arith}
use lib.ListN.{length, get_or, take, drop, drop_of_length-le}
use lib.Seq.{drop-cons, get_or-take, get_or-drop}
use Rattle.std.specs.Prelude.{Option, None, Some, option_map, find, if◌then◌else◌}
use Rattle.std.specs.Option.{option_map_or}
use Rattle.units.specs.declared.Tu.{Tu}
use Rattle.octets.specs.Equality.{same_octets}
use Rattle.octets.specs.Numbers.{le}
use Rattle.octets.proofs.Equality.{same_eq}
use Rattle.octets.proofs.Numbers.{le_drop, le_take}
use Rattle.cache.specs.File.{Cached, cached_of}
use Rattle.cache.specs.Search.{matches, end_of, found_of, choice_from, choice_of}

pub find-map : {A B : Type 0} (f : B → Bool) (g : A → B) (xs : List A) → find f (map g xs) ≡ option_map g (find (λ x. f (g x)) xs)
find-map f g [] = refl
find-map f g (x ∷ xs) = go (f (g x)) (find-map f g xs)
  where
    go : (b : Bool) → find f (map g xs) ≡ option_map g (find (λ x. f (g x)) xs)
        → (if b then Some (g x) else find f (map g xs)) ≡ option_map g (if b then Some x else find (λ x. f (g x)) xs)
    go true ih = refl
    go false ih = ih

-- A record of another PMKID does not match.
of_another : (cached pmkid : List ℕ) (akm : ℕ) (reading : Tu) → (take 16 (drop 3 cached) ≡ pmkid → ⊥) → false ≡ matches pmkid akm reading (cached_of cached)
of_another cached pmkid akm reading h = go (same_octets (take 16 (drop 3 cached)) pmkid) refl
  where
    go : (b : Bool) → same_octets (take 16 (drop 3 cached)) pmkid ≡ b → false ≡ matches pmkid akm reading (cached_of cached)
    go true e = absurd (h (same_eq (take 16 (drop 3 cached)) pmkid e))
    go false e = rw e

-- So one whose PMKID ends in another octet, or whose latter half is another number.
module _ (cached pmkid : List ℕ) (akm : ℕ) (reading : Tu) where
  pub ends_otherwise : (get_or cached 18 0 ≡ get_or pmkid 15 0 → ⊥) → false ≡ matches pmkid akm reading (cached_of cached)
  ends_otherwise h =
      let last = get_or-take 16 (drop 3 cached) 15 0 (omega arith) ∙ get_or-drop 3 cached 15 0 in
      of_another cached pmkid akm reading λ e. h (sym last ∙ ap (λ (s : List ℕ). get_or s 15 0) e)

  pub half_otherwise : (le 8 cached 11 ≡ le 8 pmkid 8 → ⊥) → false ≡ matches pmkid akm reading (cached_of cached)
  half_otherwise h =
      let half = le_take 8 (drop 3 cached) 16 8 (omega arith) ∙ le_drop 8 cached 3 8 in
      of_another cached pmkid akm reading λ e. h (sym half ∙ ap (λ (s : List ℕ). le 8 s 8) e)

-- How far the search of the list has come: no PMKID before number k has a record that matches.
pub record Tried (cs : List Cached) (pmkids : List (List ℕ)) (akm : ℕ) (reading : Tu) (k : ℕ) : Type 0 where
  pub so_far : choice_of cs pmkids akm reading ≡ choice_from k cs (drop k pmkids) akm reading

module _ (cs : List Cached) (pmkids : List (List ℕ)) (akm : ℕ) (reading : Tu) where
  pub tried_none : Tried cs pmkids akm reading 0
  unfolding choice_of
  tried_none = record { so_far = refl }

  module _ {k : ℕ} (g : Tried cs pmkids akm reading k) where
    module _ (pmkid : List ℕ) (h : k < length pmkids) (e : pmkid ≡ get_or pmkids k pmkid) where
      choice_at : choice_of cs pmkids akm reading
          ≡ option_map_or (λ c. Some (record { pmkid = k; end = end_of c })) (found_of cs pmkid akm reading) (choice_from (k + 1) cs (drop (k + 1) pmkids) akm reading)
      unfolding choice_from
      choice_at = g.so_far ∙ rw (drop-cons pmkids k pmkid h, ← e, add-one k)

      pub tried_stops : {end : Tu} → option_map end_of (found_of cs pmkid akm reading) ≡ Some end → choice_of cs pmkids akm reading ≡ Some (record { pmkid = k; end = end })
      tried_stops {end} f = choice_at ∙ go (found_of cs pmkid akm reading) f
        where
          go : (o : Option Cached) → option_map end_of o ≡ Some end
              → option_map_or (λ c. Some (record { pmkid = k; end = end_of c })) o (choice_from (k + 1) cs (drop (k + 1) pmkids) akm reading) ≡ Some (record { pmkid = k; end = end })
          go None f = cc
          go (Some c) f = cc

      pub tried_more : option_map end_of (found_of cs pmkid akm reading) ≡ None → Tried cs pmkids akm reading (k + 1)
      tried_more f = record { so_far = choice_at ∙ go (found_of cs pmkid akm reading) f }
        where
          go : (o : Option Cached) → option_map end_of o ≡ None
              → option_map_or (λ c. Some (record { pmkid = k; end = end_of c })) o (choice_from (k + 1) cs (drop (k + 1) pmkids) akm reading) ≡ choice_from (k + 1) cs (drop (k + 1) pmkids) akm reading
          go None f = refl
          go (Some c) f = cc

    pub tried_all : length pmkids ≤ k → choice_of cs pmkids akm reading ≡ None
    unfolding choice_from
    tried_all h = g.so_far ∙ rw (drop_of_length-le pmkids {i = k} h)
