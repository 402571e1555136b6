-- RSNE: version 1 (2 octets), group cipher 4, pairwise count 2 and m suites, AKM count 2 and a suites, capabilities 2, PMKID count 2 and p PMKIDs of 16,
-- group management cipher 4. Its length is exactly 18 + 4m + 4a + 16p; another version or length is ill-formed.
use Rattle.std.specs.Prelude.{ℕ, ◌+◌, ◌-◌, ◌*◌, ◌/◌, ◌&&◌, Option, None, Some, List, [], ◌∷◌, ◌++◌, eqb, length, if◌then◌else◌}
use Rattle.octets.specs.Numbers.{le, octets}
use Rattle.suites.specs.declared.Suite.{Suite}
use Rattle.suites.specs.Suite.{suite_at, suite_octets}
use Rattle.rsne.specs.declared.Rsne.{Rsne}

-- the only one of so many suites from a place on
abbrev pub only_of : List ℕ → ℕ → ℕ → Option Suite
only_of s count at = if eqb count 1 then Some (suite_at s at) else None

-- the counts, where they stand; octets past the end read as 0, and then the length is not right
unfoldable pub pairwise_count : List ℕ → ℕ
pairwise_count s = le 2 s 6

unfoldable pub akm_count : List ℕ → ℕ
unfolding pairwise_count
akm_count s = le 2 s (8 + 4 * pairwise_count s)

unfoldable pub pmkid_count : List ℕ → ℕ
unfolding akm_count
pmkid_count s = le 2 s (12 + 4 * pairwise_count s + 4 * akm_count s)

-- with m pairwise suites, a AKMs and p PMKIDs
abbrev pub rsne_with : List ℕ → ℕ → ℕ → ℕ → Option Rsne
rsne_with s m a p =
    if eqb (le 2 s 0) 1 && eqb (length s) (18 + 4 * m + 4 * a + 16 * p) then
    Some (record {
      group = suite_at s 2;
      pairwise = only_of s m 8;
      akm = only_of s a (10 + 4 * m);
      capabilities = le 2 s (10 + 4 * m + 4 * a);
      pmkids = record { start = 14 + 4 * m + 4 * a; end = 14 + 4 * m + 4 * a + 16 * p };
      management = suite_at s (length s - 4);
    })
    else None

unfoldable pub rsne_of : List ℕ → Option Rsne
unfolding pmkid_count
rsne_of s = rsne_with s (pairwise_count s) (akm_count s) (pmkid_count s)

-- the octets of the whole element, beside its PMKIDs, and of a PMKID
abbrev pub rsne_size : ℕ
rsne_size = 28

abbrev pub pmkid_size : ℕ
pmkid_size = 16

-- the whole element: ID 48 and the length; one pairwise suite, one AKM, capabilities 00C0 hex
unfoldable pub rsne_octets : ℕ → ℕ → List ℕ → List ℕ
rsne_octets cipher akm pmkids =
    (48 ∷ (length pmkids + 26) ∷ [])
    ++ octets 2 1 ++ suite_octets 7
    ++ octets 2 1 ++ suite_octets cipher
    ++ octets 2 1 ++ suite_octets akm
    ++ octets 2 0x00c0
    ++ octets 2 (length pmkids / 16) ++ pmkids
    ++ suite_octets 7
