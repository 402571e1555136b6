-- Laws of an RSNE: those by which its reader goes, that what is written reads back, and where the PMKIDs lie.
use mathlib.Core.Path.{◌≡◌, refl, ap, ◌∙◌}
use mathlib.Core.List.{List, [], ◌++◌}
use Prim.Native.Nat.{ℕ, ◌+◌, ◌-◌, ◌*◌, ◌/◌, ◌^◌, ◌<◌}
use native.Mathlib.Omega.{arith}
use borrow.Author.Tests.{eq-eqb}
use lib.ListN.{length, take, drop, length-append}
use lib.Seq.{take-append_seam}
use Rattle.std.specs.Prelude.{Some}
use Rattle.octets.specs.Numbers.{le, octets}
use Rattle.octets.proofs.Numbers.{le_octets}
use Rattle.elements.specs.declared.Part.{Part}
use Rattle.elements.specs.Lies.{Lies}
use Rattle.suites.specs.declared.Suite.TheVariants.{Ours}
use Rattle.suites.specs.Suite.{suite_at, suite_octets}
use Rattle.suites.proofs.Laws.{suite_reads_back}
use Rattle.rsne.specs.declared.Rsne.{Rsne}
use Rattle.rsne.specs.Rsne.{only_of, pairwise_count, akm_count, pmkid_count, rsne_of, rsne_size, rsne_octets}

-- an RSNE of version 1, and as long as its counts say
whole : (s : List ℕ) (m a p : ℕ) → le 2 s 0 ≡ 1 → le 2 s 6 ≡ m → le 2 s (8 + 4 * m) ≡ a → le 2 s (12 + 4 * m + 4 * a) ≡ p → length s ≡ 18 + 4 * m + 4 * a + 16 * p
    → rsne_of s
    ≡ Some (record {
      group = suite_at s 2;
      pairwise = only_of s m 8;
      akm = only_of s a (10 + 4 * m);
      capabilities = le 2 s (10 + 4 * m + 4 * a);
      pmkids = record { start = 14 + 4 * m + 4 * a; end = 14 + 4 * m + 4 * a + 16 * p };
      management = suite_at s (length s - 4);
    })
unfolding rsne_of pairwise_count akm_count pmkid_count
whole s m a p version em ea ep n = rw (em, ea, ep, version, eq-eqb _ _ n)

module _ (cipher akm : ℕ) (pmkids : List ℕ) where
  pub length_rsne : length (rsne_octets cipher akm pmkids) ≡ length pmkids + rsne_size
  unfolding rsne_octets octets suite_octets
  length_rsne = omega (arith, length-append pmkids (suite_octets 7))

  pub pmkids_content : take (length pmkids) (drop 22 (drop 2 (rsne_octets cipher akm pmkids))) ≡ pmkids
  unfolding rsne_octets octets suite_octets
  pmkids_content = take-append_seam pmkids (suite_octets 7)

-- the content's octets before the PMKIDs
abbrev front : ℕ → ℕ → ℕ → List ℕ
front cipher akm p = octets 2 1 ++ suite_octets 7 ++ octets 2 1 ++ suite_octets cipher ++ octets 2 1 ++ suite_octets akm ++ octets 2 0x00c0 ++ octets 2 p

pub rsne_reads_back : (cipher akm p : ℕ) (pmkids : List ℕ) → length pmkids ≡ 16 * p → p < 2 ^ 16
    → rsne_of (drop 2 (rsne_octets cipher akm pmkids))
    ≡ Some (record {
      group = Ours 7;
      pairwise = Some (Ours cipher);
      akm = Some (Ours akm);
      capabilities = 0x00c0;
      pmkids = record { start = 22; end = length pmkids + 22 };
      management = Ours 7;
    })
unfolding rsne_octets octets suite_octets suite_at le pmkid_count akm_count pairwise_count
rsne_reads_back cipher akm p pmkids n small =
    let s : List ℕ = front cipher akm p ++ (pmkids ++ suite_octets 7) in
    let count : length pmkids / 16 ≡ p = omega arith in
    let long : length s ≡ 26 + 16 * p = omega (arith, length-append pmkids (suite_octets 7)) in
    let last : length s - 4 ≡ length (front cipher akm p ++ pmkids) = omega arith in
    let end : length pmkids + 22 ≡ 22 + 16 * p = omega arith in
    let written : drop 2 (rsne_octets cipher akm pmkids) ≡ s = rw count in
    let management : suite_at s (length s - 4) ≡ Ours 7 = ap (suite_at s) last ∙ suite_reads_back 7 (front cipher akm p ++ pmkids) [] in
    rw (written, end) (whole s 1 1 p refl refl refl (le_octets 2 p small) long ∙ rw management)

-- The PMKIDs' part lies in the content, and has 16 octets for each.
pub record PmkidsLie (s : List ℕ) (p : Part) : Type 0 where
  pub lies : Lies 0 (length s) p
  pub count : p.end - p.start ≡ 16 * pmkid_count s

pub pmkids_lie : (s : List ℕ) {r : Rsne} → rsne_of s ≡ Some r → PmkidsLie s r.pmkids
unfolding rsne_of
pmkids_lie s {r} e = record { lies = record { long = grind arith; within = grind arith }; count = grind arith }
