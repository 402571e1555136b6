-- The cache file as it is written. Reading and writing are each other's inverse.
use Rattle.std.specs.Prelude.{Some, ◌≡◌, List, [], ◌∷◌, ◌++◌, ℕ, ◌^◌, ◌≤◌, ◌<◌, length, get_or}
use Rattle.octets.specs.Numbers.{octets}
use Rattle.octets.specs.Search.{Each}
use Rattle.cache.specs.File.{Cached, cache_of}

-- a value: PMKID 16, AKM type 1, end 8 (TU)
unfoldable pub value_octets : Cached → List ℕ
value_octets c = c.pmkid ++ (c.akm ∷ []) ++ octets 8 c.end

-- a record: tag 31 hex, 2-octet length 25, then the value
unfoldable pub record_octets : Cached → List ℕ
unfolding value_octets
record_octets c = (0x31 ∷ []) ++ octets 2 25 ++ value_octets c

-- a file: a string of records
unfoldable pub cache_octets : List Cached → List ℕ
unfolding record_octets
cache_octets [] = []
cache_octets (c ∷ cs) = record_octets c ++ cache_octets cs

abbrev pub AreOctets : List ℕ → Type 0
AreOctets s = (i : ℕ) → get_or s i 0 < 256

-- what a record can hold: 16 octets, one octet, eight octets
pub record Proper (c : Cached) : Type 0 where
  pub sixteen : length c.pmkid ≡ 16
  pub pmkid : AreOctets c.pmkid
  pub akm : c.akm < 256
  pub end : c.end < 2 ^ 64

-- what a file can hold: at most 64 records
pub record Writable (cs : List Cached) : Type 0 where
  pub most : length cs ≤ 64
  pub each : Each Proper cs

-- Reading shows what was written.
abbrev pub ReadsBack : Type 0
ReadsBack = (cs : List Cached) → Writable cs → cache_of (cache_octets cs) ≡ Some cs

-- A file that reads well is what its records write.
abbrev pub WrittenSo : Type 0
WrittenSo = (file : List ℕ) (cs : List Cached) → AreOctets file → cache_of file ≡ Some cs → file ≡ cache_octets cs

-- What reads well can be written.
abbrev pub ReadsWritable : Type 0
ReadsWritable = (file : List ℕ) (cs : List Cached) → AreOctets file → cache_of file ≡ Some cs → Writable cs
