-- A record in octets, numbers low octet first: which record any octets are, and the octets that tell a record.
use Rattle.std.specs.Prelude.{ℕ, ◌+◌, ◌≡◌, Bool, not, List, [], ◌∷◌, ◌++◌, eqb, get_or, take, drop, if◌then◌else◌}
use Rattle.octets.specs.Numbers.{le, octets}
use Rattle.octets.specs.Wrote.{Wrote}
use Rattle.peers.specs.declared.Peer.{Peer}
use Rattle.peers.specs.declared.Phase.{Phase}
use Rattle.peers.specs.declared.Phase.TheVariants.{Waiting, Installed}
use Rattle.peers.specs.View.{until}

-- where the fields begin, each behind the one before it
abbrev pub address_at : ℕ
address_at = 0

abbrev pub has_pmkid_at : ℕ
has_pmkid_at = address_at + 6

abbrev pub pmkid_at : ℕ
pmkid_at = has_pmkid_at + 1

abbrev pub phase_at : ℕ
phase_at = pmkid_at + 16

abbrev pub cipher_at : ℕ
cipher_at = phase_at + 1

abbrev pub akm_at : ℕ
akm_at = cipher_at + 1

abbrev pub unused_at : ℕ
unused_at = akm_at + 1

abbrev pub lifetime_at : ℕ
lifetime_at = unused_at + 2

abbrev pub until_at : ℕ
until_at = lifetime_at + 4

-- how many octets a record has
abbrev pub record_size : ℕ
record_size = until_at + 8

-- 0 is no, anything else yes
abbrev pub is_yes : ℕ → Bool
is_yes n = not (eqb n 0)

abbrev pub yes_number : Bool → ℕ
yes_number b = if b then 1 else 0

-- phase 0 is waiting, anything else installed; each has its time
abbrev pub phase_of : ℕ → ℕ → Phase
phase_of phase until = if eqb phase 0 then Waiting (record { 0 = until }) else Installed (record { 0 = until })

abbrev pub phase_number : Phase → ℕ
phase_number (Waiting deadline) = 0
phase_number (Installed end) = 1

-- the record that stands at the front of r
unfoldable pub peer_of : List ℕ → Peer
peer_of r = record {
  address = take 6 (drop address_at r);
  agreed = record { cipher = get_or r cipher_at 0; akm = get_or r akm_at 0; cached = is_yes (get_or r has_pmkid_at 0); lifetime = record { 0 = le 4 r lifetime_at } };
  pmkid = take 16 (drop pmkid_at r);
  phase = phase_of (get_or r phase_at 0) (le 8 r until_at);
}

-- the octets that tell a record, the two unused ones 0
unfoldable pub octets_of : Peer → List ℕ
octets_of p =
    p.address
    ++ (yes_number p.agreed.cached ∷ [])
    ++ p.pmkid
    ++ (phase_number p.phase ∷ p.agreed.cipher ∷ p.agreed.akm ∷ 0 ∷ 0 ∷ [])
    ++ octets 4 p.agreed.lifetime.0
    ++ octets 8 (until p.phase).0

-- A record is told at the front, in octets that read as that very record.
pub record Tells (p : Peer) (before after : List ℕ) : Type 0 where
  pub wrote : Wrote (octets_of p) record_size before after
  pub reads : peer_of (octets_of p) ≡ p
