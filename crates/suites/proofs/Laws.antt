-- Laws of the tables, each by one test of the whole table, and of a suite in a string.
use Prim.Native.Nat.{ℕ, ◌+◌, ◌≤◌, ◌<◌}
use mathlib.Core.Path.{◌≡◌, refl, ap}
use mathlib.Core.Bool.{Bool, true, ◌&&◌}
use mathlib.Core.List.{List, ◌++◌}
use mathlib.Core.Logic.{⊎_elim}
use native.Mathlib.Nat.{add-zero, zero-add, add_assoc}
use native.Mathlib.Omega.{arith}
use lib.Dec.{eqb, leb}
use lib.ListN.{length, drop, get_or}
use lib.Seq.{get_or-drop, get_or-append-add}
use borrow.Author.Tests.{eqb-true, leb-true}
use Rattle.std.specs.Prelude.{Option, None, Some}
use Rattle.std.specs.List.{find, list_all}
use Rattle.std.specs.Option.{option_map_or}
use Rattle.octets.proofs.Logic.{both, either}
use Rattle.octets.proofs.Options.{some-injective}
use Rattle.octets.proofs.Search.{first_found}
use Rattle.suites.specs.declared.Akm.{Akm}
use Rattle.suites.specs.declared.Cipher.{Cipher}
use Rattle.suites.specs.declared.KeyForm.{KeyForm}
use Rattle.suites.specs.declared.Group.{Group}
use Rattle.suites.specs.declared.Suite.TheVariants.{Ours}
use Rattle.suites.specs.Suite.{suite_at, suite_octets}
use Rattle.suites.specs.Tables.{akms, longest_mic, akm_of, ciphers, cipher_of, groups, longest_key, group_of, has_form, is_key_of}

pub record Within (low high n : ℕ) : Type 0 where
  pub least : low ≤ n
  pub most : n ≤ high

abbrev within : ℕ → ℕ → ℕ → Bool
within low high n = leb low n && leb n high

is_within : (low high n : ℕ) → within low high n ≡ true → Within low high n
is_within low high n e =
    let p = both _ _ e in
    record { least = leb-true low n p.0; most = leb-true n high p.1 }

-- What is found by its number, and told by `found` or else by `missing`, has that number, and passes every test that the whole table passes.
module _ {A B : Type 0} (number : A → ℕ) (table : List A) (n : ℕ) (found : A → B) (missing : B) (one : (x y : A) → found x ≡ found y → x ≡ y)
    (apart : (x : A) → missing ≡ found x → None ≡ Some x) where
  answers : (x : A) (o : Option A) → option_map_or found o missing ≡ found x → o ≡ Some x
  answers x None e = apart x e
  answers x (Some y) e = ap Some (one y x e)

  pub looked_up : (test : A → Bool) → list_all test table ≡ true → (x : A) → option_map_or found (find (λ y. eqb (number y) n) table) missing ≡ found x
      → (number x ≡ n) × (test x ≡ true)
  looked_up test t x e =
      let p = first_found (λ y. eqb (number y) n) test table x t (answers x (find (λ y. eqb (number y) n) table) e) in
      (eqb-true (number x) n p.0, p.1)

-- So is what a table's definition finds, which is told as it stands or not at all.
pub found_in : {A : Type 0} (number : A → ℕ) (table : List A) (n : ℕ) (test : A → Bool) → list_all test table ≡ true
    → (x : A) → find (λ y. eqb (number y) n) table ≡ Some x → (number x ≡ n) × (test x ≡ true)
found_in number table n test t x e = looked_up number table n Some None some-injective (λ y q. q) test t x (ap (λ o. option_map_or Some o None) e)

pub record AkmFound (kind : ℕ) (akm : Akm) : Type 0 where
  pub asked : akm.kind ≡ kind
  pub mic : Within 1 longest_mic akm.mic

pub akm_found : {kind : ℕ} {akm : Akm} → akm_of kind ≡ Some akm → AkmFound kind akm
unfolding akm_of
akm_found {kind} {akm} e =
    let p = found_in (λ (a : Akm). a.kind) akms kind (λ a. within 1 longest_mic a.mic) refl akm e in
    record { asked = p.0; mic = is_within _ _ _ p.1 }

pub record CipherFound (kind : ℕ) (cipher : Cipher) : Type 0 where
  pub asked : cipher.kind ≡ kind
  pub flag : Within 1 15 cipher.flag

pub cipher_found : {kind : ℕ} {cipher : Cipher} → cipher_of kind ≡ Some cipher → CipherFound kind cipher
unfolding cipher_of
cipher_found {kind} {cipher} e =
    let p = found_in (λ (c : Cipher). c.kind) ciphers kind (λ c. within 1 15 c.flag) refl cipher e in
    record { asked = p.0; flag = is_within _ _ _ p.1 }

pub record GroupFound (number : ℕ) (group : Group) : Type 0 where
  pub asked : group.number ≡ number
  pub keys : (key : List ℕ) → is_key_of group key ≡ true → Within 1 longest_key (length key)

form_length : (key : List ℕ) (form : KeyForm) → has_form key form ≡ true → length key ≡ form.length
unfolding has_form
form_length key form e = eqb-true _ _ (both _ _ (both _ _ (both _ _ e).0).0).0

pub group_found : {number : ℕ} {group : Group} → group_of number ≡ Some group → GroupFound number group
unfolding group_of is_key_of
group_found {number} {group} e =
    let lengths : Group → Bool = λ g. within 1 longest_key g.compressed.length && within 1 longest_key g.uncompressed.length in
    let p = found_in (λ (g : Group). g.number) groups number lengths refl group e in
    let w = both _ _ p.1 in
    record {
      asked = p.0;
      keys = λ key k.
          ⊎_elim
          (λ q. rw (form_length key group.compressed q) (is_within _ _ _ w.0))
          (λ q. rw (form_length key group.uncompressed q) (is_within _ _ _ w.1))
          (either _ _ k);
    }

-- A suite is read from its own four octets only.
pub suite_ext : (s t : List ℕ) (a b : ℕ) → ((k : ℕ) → k < 4 → get_or s (a + k) 0 ≡ get_or t (b + k) 0) → suite_at s a ≡ suite_at t b
unfolding suite_at
suite_ext s t a b h =
    let h₀ : get_or s a 0 ≡ get_or t b 0 = rw (add-zero a, add-zero b) at (h 0 (omega arith)) in
    simp (h₀, h 1 (omega arith), h 2 (omega arith), h 3 (omega arith))

pub suite_drop : (s : List ℕ) (k at : ℕ) → suite_at (drop k s) at ≡ suite_at s (k + at)
suite_drop s k at = suite_ext (drop k s) s at (k + at) λ i h. simp (get_or-drop, add_assoc)

pub length_suite : (kind : ℕ) → length (suite_octets kind) ≡ 4
unfolding suite_octets
length_suite kind = refl

-- Reading what was written gives the type back.
pub suite_reads_back : (kind : ℕ) (before after : List ℕ) → suite_at (before ++ (suite_octets kind ++ after)) (length before) ≡ Ours kind
unfolding suite_at suite_octets
suite_reads_back kind before after =
    let rest = suite_octets kind ++ after in
    suite_ext (before ++ rest) rest (length before) 0 λ i h. simp (get_or-append-add, zero-add)
