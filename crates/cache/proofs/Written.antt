-- Reading shows what was written, and a file that reads well is what its records write.
use mathlib.Core.Path.{◌≡◌, refl, sym, ap, ◌∙◌}
use mathlib.Core.List.{List, [], ◌∷◌, ◌++◌, append_assoc}
use Prim.Native.Nat.{ℕ, zero, suc, ◌+◌, ◌≤◌}
use native.Mathlib.Omega.{arith}
use borrow.Author.Tests.{ne_eqb}
use lib.ListN.{length, get_or, take, drop, length-append, length-drop, take-append-drop}
use lib.Seq.{drop-cons, drop-drop, length-take-le, get_or-drop, take_at, drop_at, get_or_at}
use Rattle.std.specs.Prelude.{Some, true}
use Rattle.octets.specs.Numbers.{le, octets}
use Rattle.octets.proofs.Numbers.{le_drop, le_bound, reads_back, written_so}
use Rattle.cache.specs.File.{is_record, Cached, cached_of, cache_from, cache_of}
use Rattle.octets.specs.Search.{Each}
use Rattle.cache.specs.Written.{value_octets, record_octets, cache_octets, AreOctets, Proper, ReadsBack, WrittenSo, ReadsWritable}
use Rattle.cache.proofs.File.{Whole, whole, record_is, holds_from}

taken : (n : ℕ) (s : List ℕ) → AreOctets s → AreOctets (take n s)
taken zero s o i = omega arith
taken (suc n) [] o i = omega arith
taken (suc n) (x ∷ s) o zero = o 0
taken (suc n) (x ∷ s) o (suc i) = taken n s (λ j. o (suc j)) i

none_of : (s : List ℕ) → length s ≡ 0 → s ≡ []
none_of [] e = refl
none_of (x ∷ s) e = absurd (omega arith)

left_over : (n : ℕ) (s : List ℕ) → AreOctets s → AreOctets (drop n s)
left_over n s o i = rw (get_or-drop n s i 0) (o (n + i))

-- a record that was read is what was written, and can be written
module _ (s : List ℕ) (o : AreOctets s) (q : is_record 0x31 25 s ≡ true) where
  w : Whole 0x31 25 s
  w = whole 0x31 25 s q

  record_written : s ≡ record_octets (cached_of s) ++ drop 28 s
  unfolding record_octets value_octets
  record_written =
      let tag : s ≡ 0x31 ∷ drop 1 s = rw w.tagged at (drop-cons s 0 0 (omega (arith, w.fits))) in
      let long : drop 1 s ≡ octets 2 25 ++ drop 3 s = rw w.told at (written_so 2 s 1 o (omega (arith, w.fits))) in
      let end : drop 20 s ≡ octets 8 (le 8 s 20) ++ drop 28 s = written_so 8 s 20 o w.fits in
      let akm : drop 19 s ≡ get_or s 19 0 ∷ drop 20 s = drop-cons s 19 0 (omega (arith, w.fits)) in
      let value : drop 3 s ≡ value_octets (cached_of s) ++ drop 28 s =
      sym (take-append-drop 16 (drop 3 s)) ∙ rw (drop-drop 16 3 s, akm, end) (simp append_assoc) in
      tag ∙ ap (λ (l : List ℕ). 0x31 ∷ l) (long ∙ ap (λ (l : List ℕ). octets 2 25 ++ l) value ∙ sym (append_assoc (octets 2 25) _ _))

  record_proper : Proper (cached_of s)
  record_proper = record {
    sixteen = length-take-le 16 (drop 3 s) (omega (arith, length-drop 3 s, w.fits));
    pmkid = taken 16 (drop 3 s) (left_over 3 s o);
    akm = o 19;
    end = le_bound 8 s 20 o;
  }

pub cache_written_so : WrittenSo
unfolding cache_of cache_octets
cache_written_so file cs o e = holds_from (λ more s cs. AreOctets s → s ≡ cache_octets cs) (λ more s q o. none_of s q)
    (λ more s cs q h o. record_written s o q ∙ ap (λ (l : List ℕ). record_octets (cached_of s) ++ l) (h (left_over 28 s o))) 64 file cs e o

pub cache_writable : ReadsWritable
unfolding cache_of
cache_writable file cs o e =
    let h = holds_from (λ more s cs. AreOctets s → (length cs ≤ more) × Each Proper cs) (λ more s q o. (omega arith, tt))
    (λ more s cs q h o. let t = h (left_over 28 s o) in (omega (arith, t.0), (record_proper s o q, t.1))) 64 file cs e o in
    record { most = h.0; each = h.1 }

-- what was written reads back, in front of whatever follows
module _ (c : Cached) (p : Proper c) where
  length_record : length (record_octets c) ≡ 28
  unfolding record_octets value_octets octets
  length_record = simp length-append (omega (arith, p.sixteen))

  value_read : (rest s : List ℕ) → drop 3 s ≡ value_octets c ++ rest → cached_of s ≡ c
  unfolding value_octets
  value_read rest s d =
      let before : List ℕ = c.pmkid ++ (c.akm ∷ []) in
      let a : drop 3 s ≡ before ++ (octets 8 c.end ++ rest) = d ∙ append_assoc before (octets 8 c.end) rest in
      let b : drop 3 s ≡ c.pmkid ++ (c.akm ∷ (octets 8 c.end ++ rest)) = a ∙ append_assoc c.pmkid (c.akm ∷ []) (octets 8 c.end ++ rest) in
      let n : length before ≡ 17 = simp length-append (omega (arith, p.sixteen)) in
      let pmkid : take 16 (drop 3 s) ≡ c.pmkid = ap (take 16) b ∙ take_at c.pmkid _ 16 p.sixteen in
      let akm : get_or s 19 0 ≡ c.akm = sym (get_or-drop 3 s 16 0) ∙ ap (λ (l : List ℕ). get_or l 16 0) b ∙ get_or_at c.pmkid c.akm _ 0 16 p.sixteen in
      let end : le 8 s 20 ≡ c.end = sym (le_drop 8 s 3 17) ∙ ap (λ (l : List ℕ). le 8 l 17) a ∙ rw n at (reads_back 8 c.end before rest p.end) in
      rw (pmkid, akm, end)

  module _ (rest : List ℕ) where
    record_stands : is_record 0x31 25 (record_octets c ++ rest) ≡ true
    unfolding record_octets octets le
    record_stands = record_is 0x31 25 (record_octets c ++ rest) (record {
      fits = omega (arith, length-append (record_octets c) rest, length_record);
      tagged = refl;
      told = refl;
    })

    record_shows : cached_of (record_octets c ++ rest) ≡ c
    unfolding record_octets octets
    record_shows = value_read rest (record_octets c ++ rest) refl

    reads_record : (more : ℕ) (cs : List Cached) → cache_from more rest ≡ Some cs → cache_from (suc more) (record_octets c ++ rest) ≡ Some (c ∷ cs)
    unfolding cache_from
    reads_record more cs e =
        let filled : length (record_octets c ++ rest) ≡ 0 → ⊥ = λ z. omega (arith, length-append (record_octets c) rest, length_record) in
        rw (ne_eqb (length (record_octets c ++ rest)) 0 filled, record_stands, record_shows, drop_at (record_octets c) rest 28 length_record, e)

reads_from : (cs : List Cached) (more : ℕ) → length cs ≤ more → Each Proper cs → cache_from more (cache_octets cs) ≡ Some cs
unfolding cache_octets cache_from
reads_from [] zero h p = refl
reads_from [] (suc more) h p = refl
reads_from (c ∷ cs) zero h p = absurd (omega arith)
reads_from (c ∷ cs) (suc more) h p = reads_record c p.0 (cache_octets cs) more cs (reads_from cs more (omega arith) p.1)

pub cache_reads_back : ReadsBack
unfolding cache_of
cache_reads_back cs w = reads_from cs 64 w.most w.each
