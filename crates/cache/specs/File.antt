-- The cache file: a string of records, each tag 31 hex, 2-octet length 25, then PMKID 16, AKM type 1, end 8 (TU).
use Rattle.std.specs.Prelude.{Bool, ◌&&◌, Option, None, Some, option_map, is_some, unwrap_or, List, [], ◌∷◌, ℕ, zero, suc, ◌+◌, leb, eqb, length, get_or, take, drop, if◌then◌else◌}
use Rattle.octets.specs.Numbers.{le}

-- a whole record with a tag and a length of its value stands at the front of a string
abbrev pub is_record : ℕ → ℕ → List ℕ → Bool
is_record tag long s = leb (3 + long) (length s) && (eqb (get_or s 0 0) tag && eqb (le 2 s 1) long)

-- what a record holds
pub record Cached : Type 0 where
  pub pmkid : List ℕ
  pub akm : ℕ
  pub end : ℕ

-- the record at the front of a string; any AKM type and any end are taken
abbrev pub cached_of : List ℕ → Cached
cached_of s = record { pmkid = take 16 (drop 3 s); akm = get_or s 19 0; end = le 8 s 20 }

infixr 60 ◌before◌
-- a record, and then the rest of the string
abbrev pub ◌before◌ : Cached → Option (List Cached) → Option (List Cached)
c before rest = option_map (λ cs. c ∷ cs) rest

-- a string of records, of which so many may come: its records, or none where it is ill-formed
unfoldable pub cache_from : ℕ → List ℕ → Option (List Cached)
cache_from zero s = if eqb (length s) 0 then Some [] else None
cache_from (suc more) s =
    if eqb (length s) 0 then Some []
    else (if is_record 0x31 25 s then cached_of s before cache_from more (drop 28 s)
    else None)

-- At most 64 records; empty is valid. More records, or any other tag, length or tail, is ill-formed.
unfoldable pub cache_of : List ℕ → Option (List Cached)
unfolding cache_from
cache_of file = cache_from 64 file

unfoldable pub is_well_formed : List ℕ → Bool
unfolding cache_of
is_well_formed file = is_some (cache_of file)

-- the records of a well-formed file
unfoldable pub records_of : List ℕ → List Cached
unfolding cache_of
records_of file = unwrap_or (cache_of file) []
