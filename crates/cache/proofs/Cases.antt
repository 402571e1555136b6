-- Worked examples.
use mathlib.Core.Path.{◌≡◌, refl}
use mathlib.Core.Bool.{true, false}
use mathlib.Core.List.{List, [], ◌∷◌, ◌++◌}
use Prim.Native.Nat.{ℕ, zero, suc}
use lib.ListN.{length, replicate}
use Rattle.std.specs.Prelude.{Option, None, Some}
use Rattle.octets.specs.Numbers.{le, octets}
use Rattle.cache.specs.declared.Choice.{Choice}
use Rattle.cache.specs.File.{Cached, cache_of, is_well_formed, records_of}
use Rattle.cache.specs.Search.{choice_of}
use Rattle.cache.specs.Written.{cache_octets}

-- a PMKID of sixteen equal octets
abbrev id : ℕ → List ℕ
id b = replicate 16 b

-- a record of such a PMKID
abbrev of : ℕ → ℕ → ℕ → Cached
of b akm end = record { pmkid = id b; akm = akm; end = end }

-- such a record in octets, with a tag and a length
abbrev tagged : ℕ → ℕ → ℕ → ℕ → ℕ → List ℕ
tagged tag long b akm end = tag ∷ (octets 2 long ++ (id b ++ (akm ∷ octets 8 end)))

abbrev one : ℕ → ℕ → ℕ → List ℕ
one b akm end = tagged 0x31 25 b akm end

abbrev copies : ℕ → List ℕ → List ℕ
copies zero s = []
copies (suc n) s = s ++ copies n s

pub empty : is_well_formed [] ≡ true
unfolding is_well_formed
empty = refl

pub one_record : cache_of (one 7 6 0x0102030405060708) ≡ Some (of 7 6 0x0102030405060708 ∷ [])
unfolding cache_of le octets
one_record = refl

pub tag_of_32 : is_well_formed (tagged 0x32 25 7 6 100) ≡ false
unfolding is_well_formed le octets
tag_of_32 = refl

pub length_of_24 : is_well_formed (tagged 0x31 24 7 6 100) ≡ false
unfolding is_well_formed le octets
length_of_24 = refl

-- 25 in the low octet alone is not enough
pub length_of_281 : is_well_formed (tagged 0x31 281 7 6 100) ≡ false
unfolding is_well_formed le octets
length_of_281 = refl

pub a_tail : is_well_formed (one 7 6 100 ++ (0x31 ∷ [])) ≡ false
unfolding is_well_formed le octets
a_tail = refl

pub longest : length (copies 64 (one 7 6 100)) ≡ 1792
unfolding octets
longest = refl

pub sixty_four : is_well_formed (copies 64 (one 7 6 100)) ≡ true
unfolding is_well_formed le octets
sixty_four = refl

pub sixty_five : is_well_formed (copies 65 (one 7 6 100)) ≡ false
unfolding is_well_formed le octets
sixty_five = refl

pub one_written : cache_octets (of 7 6 0x0102030405060708 ∷ [])
    ≡ 0x31 ∷ 25 ∷ 0 ∷ (id 7 ++ (6 ∷ 0x08 ∷ 0x07 ∷ 0x06 ∷ 0x05 ∷ 0x04 ∷ 0x03 ∷ 0x02 ∷ 0x01 ∷ []))
unfolding cache_octets octets
one_written = refl

pub two_written : cache_octets (of 7 6 100 ∷ of 9 8 200 ∷ []) ≡ one 7 6 100 ++ one 9 8 200
unfolding cache_octets octets
two_written = refl

abbrev chosen : ℕ → ℕ → Choice
chosen k end = record { pmkid = k; end = record { 0 = end } }

-- what a list of PMKIDs is answered, by a file, for an AKM and a reading
abbrev asked : List ℕ → List (List ℕ) → ℕ → ℕ → Option Choice
asked file pmkids akm reading = choice_of (records_of file) pmkids akm (record { 0 = reading })

pub the_akm : asked (one 7 6 100) (id 7 ∷ []) 6 99 ≡ Some (chosen 0 100)
unfolding choice_of records_of le octets
the_akm = refl

pub end_now : asked (one 7 6 100) (id 7 ∷ []) 6 100 ≡ None
unfolding choice_of records_of le octets
end_now = refl

pub end_in_one : asked (one 7 6 101) (id 7 ∷ []) 6 100 ≡ Some (chosen 0 101)
unfolding choice_of records_of le octets
end_in_one = refl

-- the frame's order of PMKIDs, not the file's
pub first_pmkid : asked (one 7 6 100 ++ one 9 6 200) (id 5 ∷ id 9 ∷ id 7 ∷ []) 6 99 ≡ Some (chosen 1 200)
unfolding choice_of records_of le octets
first_pmkid = refl

-- of three records of one PMKID the first is expired
pub first_unexpired : asked (one 7 6 50 ++ (one 7 6 100 ++ one 7 6 200)) (id 7 ∷ []) 6 99 ≡ Some (chosen 0 100)
unfolding choice_of records_of le octets
first_unexpired = refl
