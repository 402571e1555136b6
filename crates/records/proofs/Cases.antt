-- Worked examples: the layout as include/galebeacon.h asserts it, and what its numbers mean.
use mathlib.Core.Path.{◌≡◌, refl}
use mathlib.Core.Bool.{true, false}
use mathlib.Core.List.{[], ◌∷◌, ◌++◌}
use lib.ListN.{replicate}
use Rattle.octets.specs.Numbers.{le, octets}
use Rattle.peers.specs.declared.Peer.{Peer}
use Rattle.peers.specs.declared.Phase.TheVariants.{Waiting, Installed}
use Rattle.records.specs.Record.{address_at, has_pmkid_at, pmkid_at, phase_at, cipher_at, akm_at, unused_at, lifetime_at, until_at, record_size, is_yes, yes_number, phase_of, phase_number, peer_of, octets_of}

pub zero_is_no : is_yes 0 ≡ false
zero_is_no = refl

pub any_other_is_yes : is_yes 255 ≡ true
any_other_is_yes = refl

pub yes_is_told_as_1 : yes_number true ≡ 1
yes_is_told_as_1 = refl

pub phase_0_waits : phase_of 0 6000 ≡ Waiting (record { 0 = 6000 })
phase_0_waits = refl

pub any_other_is_installed : phase_of 2 6000 ≡ Installed (record { 0 = 6000 })
any_other_is_installed = refl

pub installed_is_told_as_1 : phase_number (Installed (record { 0 = 6000 })) ≡ 1
installed_is_told_as_1 = refl

pub where_fields_begin : address_at ∷ has_pmkid_at ∷ pmkid_at ∷ phase_at ∷ cipher_at ∷ akm_at ∷ unused_at ∷ lifetime_at ∷ until_at ∷ []
    ≡ 0 ∷ 6 ∷ 7 ∷ 23 ∷ 24 ∷ 25 ∷ 26 ∷ 28 ∷ 32 ∷ []
where_fields_begin = refl

pub record_of_40 : record_size ≡ 40
record_of_40 = refl

abbrev installed : Peer
installed = record {
  address = 2 ∷ 0 ∷ 0 ∷ 0 ∷ 0 ∷ 7 ∷ [];
  agreed = record { cipher = 4; akm = 8; cached = true; lifetime = record { 0 = 3600 } };
  pmkid = replicate 16 0xaa;
  phase = Installed (record { 0 = 0x123456 });
}

pub a_record_told : octets_of installed
    ≡ (2 ∷ 0 ∷ 0 ∷ 0 ∷ 0 ∷ 7 ∷ 1 ∷ [])
    ++ replicate 16 0xaa
    ++ (1 ∷ 4 ∷ 8 ∷ 0 ∷ 0 ∷ [])
    ++ (0x10 ∷ 0x0e ∷ 0 ∷ 0 ∷ [])
    ++ (0x56 ∷ 0x34 ∷ 0x12 ∷ 0 ∷ 0 ∷ 0 ∷ 0 ∷ 0 ∷ [])
unfolding octets_of octets
a_record_told = refl

pub and_read : peer_of (octets_of installed) ≡ installed
unfolding peer_of octets_of octets le
and_read = refl
