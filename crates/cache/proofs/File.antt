-- Laws of the file: it is well-formed if it is cut into pieces of 28 octets, of which each is a record, and not too many.
use mathlib.Core.Path.{◌≡◌, refl, ap, subst, ◌∙◌}
use mathlib.Core.Bool.{Bool, true, false, ◌&&◌, and-false, false≢true}
use mathlib.Core.List.{List, [], ◌∷◌, map}
use Prim.Native.Nat.{ℕ, zero, suc, ◌+◌, ◌/◌, ◌%◌, ◌≤◌, ◌<◌}
use native.Mathlib.Omega.{arith}
use borrow.Author.Tests.{eqb-true, eq-eqb, ne_eqb, leb-true, leb-false, le-leb, lt-leb}
use lib.Dec.{leb, eqb}
use lib.ListN.{length, get_or, take, drop, length-drop}
use lib.Seq.{get_or-take, length-take-le, take-take}
use Rattle.std.specs.Prelude.{Option, None, Some, is_some, unwrap_or, if◌then◌else◌}
use Rattle.std.proofs.lemmas.List.{drop-take}
use Rattle.std.specs.List.{list_all}
use Rattle.octets.proofs.Options.{some-injective, none-ne-some}
use Rattle.octets.specs.Numbers.{le}
use Rattle.octets.specs.Pieces.{pieces}
use Rattle.octets.proofs.Numbers.{le_take}
use Rattle.octets.proofs.Logic.{both}
use Rattle.cache.specs.File.{is_record, Cached, cached_of, ◌before◌, cache_from, cache_of, is_well_formed, records_of}

-- a whole record with a tag and a length of its value stands at the front of a string
pub record Whole (tag long : ℕ) (s : List ℕ) : Type 0 where
  pub fits : 3 + long ≤ length s
  pub tagged : get_or s 0 0 ≡ tag
  pub told : le 2 s 1 ≡ long

module _ (tag long : ℕ) (s : List ℕ) where
  pub whole : is_record tag long s ≡ true → Whole tag long s
  whole e =
      let t = both (leb (3 + long) (length s)) (eqb (get_or s 0 0) tag && eqb (le 2 s 1) long) e in
      let u = both (eqb (get_or s 0 0) tag) (eqb (le 2 s 1) long) t.1 in
      record {
        fits = leb-true (3 + long) (length s) t.0;
        tagged = eqb-true (get_or s 0 0) tag u.0;
        told = eqb-true (le 2 s 1) long u.1;
      }

  pub record_is : Whole tag long s → is_record tag long s ≡ true
  record_is w = simp (le-leb (3 + long) (length s) w.fits, eq-eqb _ _ w.tagged, eq-eqb _ _ w.told)

-- the octets of a record are the first 28
module _ (s : List ℕ) (h : 28 ≤ length s) where
  record_cut : is_record 0x31 25 (take 28 s) ≡ is_record 0x31 25 s
  record_cut = simp (length-take-le 28 s h, get_or-take 28 s 0 0 (omega arith), le_take 2 s 28 1 (omega arith), le-leb 28 (length s) h)

  cached_cut : cached_of (take 28 s) ≡ cached_of s
  cached_cut =
      let pmkid : take 16 (drop 3 (take 28 s)) ≡ take 16 (drop 3 s) = ap (take 16) (drop-take 3 25 s) ∙ take-take 16 25 (drop 3 s) (omega arith) in
      rw (pmkid, get_or-take 28 s 19 0 (omega arith), le_take 8 s 28 20 (omega arith))

-- whether a string is so many records at most, and the records
abbrev pub are_records : ℕ → List ℕ → Bool
are_records most s = eqb (length s % 28) 0 && (leb (length s / 28) most && list_all (is_record 0x31 25) (pieces 28 (length s / 28) s))

abbrev pub cut : List ℕ → List Cached
cut s = map cached_of (pieces 28 (length s / 28) s)

leb_suc : (a b : ℕ) → leb (suc a) (suc b) ≡ leb a b
leb_suc a b = go (leb a b) refl
  where
    go : (t : Bool) → leb a b ≡ t → leb (suc a) (suc b) ≡ t
    go true e = le-leb (suc a) (suc b) (omega (arith, leb-true a b e))
    go false e = lt-leb (suc a) (suc b) (omega (arith, leb-false a b e))

-- a record, and then the rest
module _ (more : ℕ) (s : List ℕ) (h : 28 ≤ length s) (r : is_record 0x31 25 s ≡ true) where
  fewer : length s / 28 ≡ suc (length (drop 28 s) / 28)
  fewer = omega (arith, length-drop 28 s)

  cut_more : cut s ≡ cached_of s ∷ cut (drop 28 s)
  unfolding pieces
  cut_more = rw (fewer, cached_cut s h)

  are_more : are_records (suc more) s ≡ are_records more (drop 28 s)
  unfolding pieces
  are_more =
      let e : length s % 28 ≡ length (drop 28 s) % 28 = omega (arith, length-drop 28 s) in
      rw (e, fewer, leb_suc (length (drop 28 s) / 28) more, record_cut s h, r)

-- octets that begin with no record
none_are : (more : ℕ) (s : List ℕ) → is_record 0x31 25 s ≡ false → 0 < length s → are_records more s ≡ false
unfolding pieces
none_are more s e l = by_length (length s / 28) refl
  where
    by_length : (n : ℕ) → length s / 28 ≡ n → are_records more s ≡ false
    by_length zero q = rw (ne_eqb (length s % 28) 0 (λ z. omega arith))
    by_length (suc n) q = rw (q, record_cut s (omega arith), e) (simp and-false)

too_many : (s : List ℕ) → 0 < length s → are_records 0 s ≡ false
too_many s l = by_length (length s / 28) refl
  where
    by_length : (n : ℕ) → length s / 28 ≡ n → are_records 0 s ≡ false
    by_length zero q = rw (ne_eqb (length s % 28) 0 (λ z. omega arith))
    by_length (suc n) q = rw (q, lt-leb (suc n) 0 (omega arith)) (simp and-false)

-- what is cut off is what is read
abbrev By : ℕ → List ℕ → Type 0
By more s = cache_from more s ≡ (if are_records more s then Some (cut s) else None)

in_front : (b : Bool) (c : Cached) (cs : List Cached) → c before (if b then Some cs else None) ≡ (if b then Some (c ∷ cs) else None)
in_front true c cs = refl
in_front false c cs = refl

at_end : (more : ℕ) (s : List ℕ) → length s ≡ 0 → By more s
unfolding cache_from pieces
at_end zero s q = rw q
at_end (suc more) s q = rw (q, le-leb 0 (suc more) (omega arith))

cut_by : (more : ℕ) (s : List ℕ) → By more s
unfolding cache_from
cut_by zero s = by_length (length s) refl
  where
    by_length : (n : ℕ) → length s ≡ n → By 0 s
    by_length zero q = at_end 0 s q
    by_length (suc n) q = rw (ne_eqb (length s) 0 (λ z. omega arith), too_many s (omega arith))
cut_by (suc more) s = by_length (length s) refl (cut_by more (drop 28 s))
  where
    by_record : (b : Bool) → is_record 0x31 25 s ≡ b → 0 < length s → By more (drop 28 s) → By (suc more) s
    by_record true e h ih =
        let l = (whole 0x31 25 s e).fits in
        rw (ne_eqb (length s) 0 (λ z. omega arith), e, ih, are_more more s l e, cut_more more s l e) (in_front (are_records more (drop 28 s)) (cached_of s) (cut (drop 28 s)))
    by_record false e h ih = rw (ne_eqb (length s) 0 (λ z. omega arith), e, none_are (suc more) s e h)

    by_length : (n : ℕ) → length s ≡ n → By more (drop 28 s) → By (suc more) s
    by_length zero q ih = at_end (suc more) s q
    by_length (suc n) q ih = by_record (is_record 0x31 25 s) refl (omega arith) ih

module _ (file : List ℕ) where
  by_test : (b : Bool) → cache_of file ≡ (if b then Some (cut file) else None) → (is_some (cache_of file) ≡ b) × (is_some (cache_of file) ≡ true → unwrap_or (cache_of file) [] ≡ cut file)
  by_test true e = rw e (refl, λ h. refl)
  by_test false e = rw e (refl, λ h. absurd (false≢true h))

  by_cut : (is_some (cache_of file) ≡ are_records 64 file) × (is_some (cache_of file) ≡ true → unwrap_or (cache_of file) [] ≡ cut file)
  unfolding cache_of
  by_cut = by_test (are_records 64 file) (cut_by 64 file)

  pub well_formed_by : is_well_formed file ≡ are_records 64 file
  unfolding is_well_formed
  well_formed_by = by_cut.0

  pub records_by : is_well_formed file ≡ true → records_of file ≡ cut file
  unfolding is_well_formed records_of
  records_by = by_cut.1

-- What holds of nothing, and of a record with the rest behind it where it holds of the rest, holds of every string that reads well.
module _ (P : ℕ → List ℕ → List Cached → Type 0) (ends : (more : ℕ) (s : List ℕ) → length s ≡ 0 → P more s [])
    (goes : (more : ℕ) (s : List ℕ) (cs : List Cached) → is_record 0x31 25 s ≡ true → P more (drop 28 s) cs → P (suc more) s (cached_of s ∷ cs)) where
  pub holds_from : (more : ℕ) (s : List ℕ) (cs : List Cached) → cache_from more s ≡ Some cs → P more s cs
  unfolding cache_from
  holds_from zero s cs e = by_length (length s) refl e
    where
      by_length : (n : ℕ) → length s ≡ n → (if eqb (length s) 0 then Some [] else None) ≡ Some cs → P 0 s cs
      by_length zero q e = subst (P 0 s) (some-injective [] cs (rw q at e)) (ends 0 s q)
      by_length (suc n) q e = absurd (none-ne-some cs (rw (ne_eqb (length s) 0 (λ z. omega arith)) at e))
  holds_from (suc more) s cs e = by_length (length s) refl e (holds_from more (drop 28 s))
    where
      by_rest : is_record 0x31 25 s ≡ true → (o : Option (List Cached)) → cache_from more (drop 28 s) ≡ o → cached_of s before o ≡ Some cs
          → ((rest : List Cached) → cache_from more (drop 28 s) ≡ Some rest → P more (drop 28 s) rest) → P (suc more) s cs
      by_rest r None q e ih = cc
      by_rest r (Some rest) q e ih = let z : cached_of s ∷ rest ≡ cs = cc in subst (P (suc more) s) z (goes more s rest r (ih rest q))

      by_record : (b : Bool) → is_record 0x31 25 s ≡ b → (if b then cached_of s before cache_from more (drop 28 s) else None) ≡ Some cs
          → ((rest : List Cached) → cache_from more (drop 28 s) ≡ Some rest → P more (drop 28 s) rest) → P (suc more) s cs
      by_record true r e ih = by_rest r (cache_from more (drop 28 s)) refl e ih
      by_record false r e ih = cc

      by_length : (n : ℕ) → length s ≡ n → (if eqb (length s) 0 then Some [] else (if is_record 0x31 25 s then cached_of s before cache_from more (drop 28 s) else None)) ≡ Some cs
          → ((rest : List Cached) → cache_from more (drop 28 s) ≡ Some rest → P more (drop 28 s) rest) → P (suc more) s cs
      by_length zero q e ih = subst (P (suc more) s) (some-injective [] cs (rw q at e)) (ends (suc more) s q)
      by_length (suc n) q e ih = by_record (is_record 0x31 25 s) refl (rw (ne_eqb (length s) 0 (λ z. omega arith)) at e) ih
