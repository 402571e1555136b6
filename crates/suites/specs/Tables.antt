-- The suites and groups stand in fixed tables.
use Rattle.std.specs.Prelude.{ℕ, Bool, true, false, ◌&&◌, ◌||◌, not, Option, List, [], ◌∷◌, eqb, leb, length, get_or, if◌then◌else◌}
use Rattle.std.specs.List.{find, list_any}
use Rattle.suites.specs.declared.Akm.{Akm}
use Rattle.suites.specs.declared.Cipher.{Cipher}
use Rattle.suites.specs.declared.KeyForm.{KeyForm}
use Rattle.suites.specs.declared.Group.{Group}

-- the greater of two numbers, and the greatest number of a table's entries
abbrev greater : ℕ → ℕ → ℕ
greater m n = if leb m n then n else m

abbrev greatest : {A : Type 0} → (A → ℕ) → List A → ℕ
greatest number [] = 0
greatest number (x ∷ xs) = greater (number x) (greatest number xs)

-- AKM types 5, 6, 8 and 21, each with a MIC of 16 octets; 21 is PASN itself, with no PMK
abbrev pub akms : List Akm
akms =
    record { kind = 5; mic = 16; pmk = true }
    ∷ record { kind = 6; mic = 16; pmk = true }
    ∷ record { kind = 8; mic = 16; pmk = true }
    ∷ record { kind = 21; mic = 16; pmk = false }
    ∷ []

-- the octets of the longest MIC
abbrev pub longest_mic : ℕ
longest_mic = greatest (λ (a : Akm). a.mic) akms

unfoldable pub akm_of : ℕ → Option Akm
akm_of kind = find (λ (a : Akm). eqb a.kind kind) akms

-- whether a MIC of n octets goes with an AKM of the table
unfoldable pub is_mic_length : ℕ → Bool
is_mic_length n = list_any (λ (a : Akm). eqb a.mic n) akms

-- the group cipher, and the group management cipher
abbrev pub group_cipher : ℕ
group_cipher = 7

-- pairwise ciphers 4, 8, 9 and 10
abbrev pub ciphers : List Cipher
ciphers =
    record { kind = 4; flag = 1 }
    ∷ record { kind = 8; flag = 2 }
    ∷ record { kind = 9; flag = 4 }
    ∷ record { kind = 10; flag = 8 }
    ∷ []

unfoldable pub cipher_of : ℕ → Option Cipher
cipher_of kind = find (λ (c : Cipher). eqb c.kind kind) ciphers

-- group 19, with key length 33 (first octet 2 or 3) or 65 (first octet 4)
abbrev pub groups : List Group
groups =
    record {
      number = 19;
      compressed = record { length = 33; lowest = 2; highest = 3 };
      uncompressed = record { length = 65; lowest = 4; highest = 4 };
    }
    ∷ []

-- the octets of the longest key
abbrev pub longest_key : ℕ
longest_key = greatest (λ (g : Group). greater g.compressed.length g.uncompressed.length) groups

unfoldable pub group_of : ℕ → Option Group
group_of number = find (λ (g : Group). eqb g.number number) groups

-- whether a key has a form: its length, and its first octet
unfoldable pub has_form : List ℕ → KeyForm → Bool
has_form key form =
    eqb (length key) form.length
    && not (eqb (length key) 0)
    && leb form.lowest (get_or key 0 0)
    && leb (get_or key 0 0) form.highest

-- whether a key has one of a group's two forms
unfoldable pub is_key_of : Group → List ℕ → Bool
unfolding has_form
is_key_of group key = has_form key group.compressed || has_form key group.uncompressed
