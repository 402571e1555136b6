-- A record that was told in octets is read again: each field stands where it is read.
use Prim.Native.Nat.{ℕ, ◌+◌, ◌^◌, ◌<◌}
use mathlib.Core.Path.{◌≡◌, refl, sym, ap, ◌∙◌}
use mathlib.Core.Bool.{Bool, true, false}
use mathlib.Core.List.{List, [], ◌∷◌, ◌++◌, append_assoc, append-nil}
use native.Mathlib.Omega.{arith}
use lib.ListN.{length, get_or, take, drop, length-append, get_or-append}
use lib.Seq.{take_at, drop_at, get_or-append-add}
use Rattle.octets.specs.Numbers.{le, octets}
use Rattle.octets.proofs.Numbers.{length_octets, reads_back}
use Rattle.std.specs.Int.{from_bool}
use Rattle.peers.specs.declared.Peer.{Peer}
use Rattle.peers.specs.declared.Phase.{Phase}
use Rattle.peers.specs.declared.Phase.TheVariants.{Waiting, Installed}
use Rattle.peers.specs.View.{until}
use Rattle.records.specs.Record.{address_at, has_pmkid_at, pmkid_at, phase_at, lifetime_at, until_at, is_yes, yes_number, phase_of, phase_number, peer_of, octets_of}

-- x stands in s from a place on
record Stands (x : List ℕ) (at : ℕ) (s : List ℕ) : Type 0 where
  front : List ℕ
  back : List ℕ
  whole : s ≡ front ++ (x ++ back)
  begins : length front ≡ at

-- behind a front of that length, and with more behind it
stands_last : (front x : List ℕ) {at : ℕ} → length front ≡ at → Stands x at (front ++ x)
stands_last front x l = record { front = front; back = []; whole = ap (λ (z : List ℕ). front ++ z) (sym (append-nil x)); begins = l }

stands_on : {x s : List ℕ} {at : ℕ} (t : List ℕ) → Stands x at s → Stands x at (s ++ t)
stands_on {x} t w = record {
  front = w.front;
  back = w.back ++ t;
  whole = ap (λ (z : List ℕ). z ++ t) w.whole ∙ append_assoc w.front (x ++ w.back) t ∙ ap (λ (z : List ℕ). w.front ++ z) (append_assoc x w.back t);
  begins = w.begins;
}

module _ {x s : List ℕ} {at : ℕ} (w : Stands x at s) where
  read_part : (n : ℕ) → length x ≡ n → take n (drop at s) ≡ x
  read_part n l =
      ap (λ (z : List ℕ). take n (drop at z)) w.whole
      ∙ ap (take n) (drop_at w.front (x ++ w.back) at w.begins)
      ∙ take_at x w.back n l

  read_octet : (k : ℕ) → k < length x → get_or s (at + k) 0 ≡ get_or x k 0
  read_octet k h =
      ap (λ (z : List ℕ). get_or z (at + k) 0) w.whole
      ∙ ap (λ (n : ℕ). get_or (w.front ++ (x ++ w.back)) (n + k) 0) (sym w.begins)
      ∙ get_or-append-add w.front (x ++ w.back) k 0
      ∙ get_or-append x w.back 0 k h

read_number : (v n : ℕ) {s : List ℕ} {at : ℕ} → Stands (octets v n) at s → n < 256 ^ v → le v s at ≡ n
read_number v n {at = at} w h =
    ap (λ (z : List ℕ). le v z at) w.whole
    ∙ ap (le v (w.front ++ (octets v n ++ w.back))) (sym w.begins)
    ∙ reads_back v n w.front w.back h

-- how the code makes a number of a bool
pub yes_cast : (b : Bool) → from_bool b ≡ yes_number b
yes_cast true = refl
yes_cast false = refl

yes_back : (b : Bool) → is_yes (yes_number b) ≡ b
yes_back true = refl
yes_back false = refl

phase_back : (p : Phase) → phase_of (phase_number p) (until p).0 ≡ p
phase_back (Waiting deadline) = refl
phase_back (Installed end) = refl

module _ (p : Peer) (address_fits : length p.address ≡ 6) (pmkid_fits : length p.pmkid ≡ 16) where
  abbrev flag : List ℕ
  flag = yes_number p.agreed.cached ∷ []

  abbrev suites : List ℕ
  suites = phase_number p.phase ∷ p.agreed.cipher ∷ p.agreed.akm ∷ 0 ∷ 0 ∷ []

  abbrev lifetime : List ℕ
  lifetime = octets 4 p.agreed.lifetime.0

  abbrev time : List ℕ
  time = octets 8 (until p.phase).0

  address_stands : Stands p.address address_at (octets_of p)
  unfolding octets_of
  address_stands = stands_on time (stands_on lifetime (stands_on suites (stands_on p.pmkid (stands_on flag (stands_last [] p.address refl)))))

  flag_stands : Stands flag has_pmkid_at (octets_of p)
  unfolding octets_of
  flag_stands = stands_on time (stands_on lifetime (stands_on suites (stands_on p.pmkid (stands_last p.address flag address_fits))))

  pmkid_stands : Stands p.pmkid pmkid_at (octets_of p)
  unfolding octets_of
  pmkid_stands = stands_on time (stands_on lifetime (stands_on suites (stands_last (p.address ++ flag) p.pmkid (simp length-append (omega arith)))))

  suites_stand : Stands suites phase_at (octets_of p)
  unfolding octets_of
  suites_stand = stands_on time (stands_on lifetime (stands_last (p.address ++ flag ++ p.pmkid) suites (simp length-append (omega arith))))

  lifetime_stands : Stands lifetime lifetime_at (octets_of p)
  unfolding octets_of
  lifetime_stands = stands_on time (stands_last (p.address ++ flag ++ p.pmkid ++ suites) lifetime (simp length-append (omega arith)))

  time_stands : Stands time until_at (octets_of p)
  unfolding octets_of
  time_stands =
      stands_last (p.address ++ flag ++ p.pmkid ++ suites ++ lifetime) time
      (simp length-append (omega (arith, length_octets 4 p.agreed.lifetime.0)))

  pub told : p.agreed.lifetime.0 < 256 ^ 4 → (until p.phase).0 < 256 ^ 8 → peer_of (octets_of p) ≡ p
  unfolding peer_of
  told lifetime_fits time_fits =
      rw (
        read_part address_stands 6 address_fits,
        read_octet flag_stands 0 (omega arith),
        read_part pmkid_stands 16 pmkid_fits,
        read_octet suites_stand 0 (omega arith),
        read_octet suites_stand 1 (omega arith),
        read_octet suites_stand 2 (omega arith),
        read_number 4 p.agreed.lifetime.0 lifetime_stands lifetime_fits,
        read_number 8 (until p.phase).0 time_stands time_fits,
        yes_back p.agreed.cached,
        phase_back p.phase,
      )
