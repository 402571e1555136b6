-- Worked examples.
use Prim.Native.Nat.{ℕ}
use mathlib.Core.Path.{◌≡◌, refl}
use mathlib.Core.Bool.{Bool, true, false}
use mathlib.Core.List.{List, [], ◌∷◌}
use lib.ListN.{replicate}
use Rattle.std.specs.Prelude.{Option, None, Some}
use Rattle.std.specs.Option.{option_map_or}
use Rattle.suites.specs.declared.Group.{Group}
use Rattle.suites.specs.declared.Suite.TheVariants.{Ours, Other}
use Rattle.suites.specs.Suite.{suite_at, suite_octets}
use Rattle.suites.specs.Tables.{akm_of, cipher_of, group_of, is_key_of}

pub ours : suite_at (0x01 ∷ 0x00 ∷ 0x00 ∷ 0x0f ∷ 0xac ∷ 0x08 ∷ []) 2 ≡ Ours 8
unfolding suite_at
ours = refl

pub other : suite_at (0x00 ∷ 0x50 ∷ 0xf2 ∷ 0x02 ∷ []) 0 ≡ Other
unfolding suite_at
other = refl

pub written : suite_octets 8 ≡ 0x00 ∷ 0x0f ∷ 0xac ∷ 0x08 ∷ []
unfolding suite_octets
written = refl

pub akm_5 : akm_of 5 ≡ Some record { kind = 5; mic = 16; pmk = true }
unfolding akm_of
akm_5 = refl

pub akm_8 : akm_of 8 ≡ Some record { kind = 8; mic = 16; pmk = true }
unfolding akm_of
akm_8 = refl

pub akm_21 : akm_of 21 ≡ Some record { kind = 21; mic = 16; pmk = false }
unfolding akm_of
akm_21 = refl

pub no_akm_2 : akm_of 2 ≡ None
unfolding akm_of
no_akm_2 = refl

pub no_akm_24 : akm_of 24 ≡ None
unfolding akm_of
no_akm_24 = refl

pub cipher_10 : cipher_of 10 ≡ Some record { kind = 10; flag = 8 }
unfolding cipher_of
cipher_10 = refl

-- the group cipher is no pairwise one
pub no_cipher_7 : cipher_of 7 ≡ None
unfolding cipher_of
no_cipher_7 = refl

pub group_19 :
    group_of 19
    ≡ Some
    (record { number = 19; compressed = record { length = 33; lowest = 2; highest = 3 }; uncompressed = record { length = 65; lowest = 4; highest = 4 } })
unfolding group_of
group_19 = refl

pub no_group_20 : group_of 20 ≡ None
unfolding group_of
no_group_20 = refl

-- whether octets are a key of a group in the table
abbrev key_of : Option Group → List ℕ → Bool
key_of group key = option_map_or (λ g. is_key_of g key) group false

pub compressed_2 : key_of (group_of 19) (2 ∷ replicate 32 0) ≡ true
unfolding group_of is_key_of
compressed_2 = refl

pub compressed_3 : key_of (group_of 19) (3 ∷ replicate 32 0) ≡ true
unfolding group_of is_key_of
compressed_3 = refl

pub no_compressed_4 : key_of (group_of 19) (4 ∷ replicate 32 0) ≡ false
unfolding group_of is_key_of
no_compressed_4 = refl

pub uncompressed_4 : key_of (group_of 19) (4 ∷ replicate 64 0) ≡ true
unfolding group_of is_key_of
uncompressed_4 = refl

pub no_uncompressed_2 : key_of (group_of 19) (2 ∷ replicate 64 0) ≡ false
unfolding group_of is_key_of
no_uncompressed_2 = refl

pub one_too_long : key_of (group_of 19) (2 ∷ replicate 33 0) ≡ false
unfolding group_of is_key_of
one_too_long = refl

pub no_empty_key : key_of (group_of 19) [] ≡ false
unfolding group_of is_key_of
no_empty_key = refl
