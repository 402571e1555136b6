-- Where the key and the MIC of a body lie, and what writing the MIC leaves.
use mathlib.Core.Path.{◌≡◌, refl, sym, ap, ◌∙◌, subst}
use mathlib.Core.Bool.{◌&&◌, ◌||◌}
use mathlib.Core.List.{List, ◌++◌, append_assoc}
use Rattle.std.specs.Prelude.{Option, None, Some, Ok, unwrap_or}
use Rattle.std.specs.Result.{result_ok}
use Rattle.octets.proofs.Options.{some-injective}
use Prim.Native.Nat.{ℕ, ◌-◌, ◌≤◌}
use native.Mathlib.Omega.{arith}
use lib.Dec.{eqb}
use lib.ListN.{length, take, drop, replicate, length-append, length-replicate}
use lib.Seq.{length-take-le, take-append-le, drop-append-le}
use borrow.Rule.Slice.PartMut.{put_mid}
use Rattle.octets.specs.Wrote.{Wrote}
use Rattle.octets.proofs.Parts.{wrote_front, wrote_more}
use Rattle.elements.specs.declared.Part.{Part}
use Rattle.elements.specs.Body.{body_of}
use Rattle.elements.specs.Lies.{Lies, content}
use Rattle.scan.specs.declared.Places.{Places}
use Rattle.scan.specs.declared.Times.TheVariants.{One}
use Rattle.scan.specs.Scan.{scan_of}
use Rattle.scan.specs.Times.{once}
use Rattle.scan.specs.Within.{LiesIf}
use Rattle.scan.proofs.Scanning.{within}
use Rattle.suites.specs.Tables.{is_mic_length, group_of, is_key_of}
use Rattle.frames.specs.Contents.{holds}
use Rattle.frames.specs.First.{first_of}
use Rattle.frames.proofs.Chain.{found}
use Rattle.frames.proofs.Steps.{walked_to, once_at}
use Rattle.frames.proofs.first.Laws.{first_lies}
use Rattle.chip.specs.Chip.{nowhere, key_in, key_part, mic_in, with_mic}

key_in_lies : (body : List ℕ) {p : Part} → key_in body ≡ Some p → Lies 0 (length body) p
unfolding key_in
key_in_lies body e =
    found (body_of body) e λ header opens e.
    found (holds (eqb header.algorithm 7 && eqb header.transaction 1)) e λ u first e.
    found (first_of body) e λ facts reads e.
    found (group_of facts.group) e λ group in_table e.
    found (holds (is_key_of group (content body facts.key))) e λ v fits e.
    subst (Lies 0 (length body)) (some-injective _ _ e) (first_lies body reads).key

pub key_part_lies : (body : List ℕ) → Lies 0 (length body) (key_part body)
unfolding key_part
key_part_lies body = go (key_in body) refl
  where
    go : (o : Option Part) → key_in body ≡ o → Lies 0 (length body) (unwrap_or o nowhere)
    go (Some p) e = key_in_lies body e
    go None e = record { long = omega arith; within = omega arith }

-- a MIC's place is that of the one MIC of a body that walks to its end
pub record Found (body : List ℕ) (p : Part) : Type 0 where
  pub places : Places
  pub walked : scan_of body ≡ Ok places
  pub one : places.mic ≡ One p

pub mic_found : (body : List ℕ) {p : Part} → mic_in body ≡ Some p → Found body p
unfolding mic_in
mic_found body {p} e =
    found (body_of body) e λ header opens e.
    found (holds (eqb header.algorithm 7 && (eqb header.transaction 2 || eqb header.transaction 3))) e λ u kind e.
    found (result_ok (scan_of body)) e λ places walked e.
    found (once places.mic) e λ mic one e.
    found (holds (is_mic_length (mic.end - mic.start))) e λ v long e.
    record { places = places; walked = walked_to (scan_of body) walked; one = once_at places.mic one ∙ ap One (some-injective _ _ e) }

pub mic_lies : (body : List ℕ) (p : Part) → mic_in body ≡ Some p → Lies 0 (length body) p
mic_lies body p e =
    let f = mic_found body e in
    subst (LiesIf 0 (length body)) f.one (within body f.places f.walked).mic

-- Writing n octets into the part of a body that begins at its MIC sets the MIC.
pub mic_set : (body mic ys : List ℕ) (p : Part) {n : ℕ} → Lies 0 (length body) p → p.end - p.start ≡ length mic
    → Wrote mic n (take (length body - p.start) (drop p.start body)) ys
    → put_mid p.start (length body - p.start) body ys ≡ with_mic body p mic
mic_set body mic ys p l e w =
    let whole = wrote_more (wrote_front body p.start (omega arith)) w in
    let n : length (take p.start body ++ mic) ≡ p.end =
    length-append (take p.start body) mic ∙ omega (arith, length-take-le p.start body (omega arith)) in
    whole.leaves ∙ ap (λ (k : ℕ). (take p.start body ++ mic) ++ drop k body) n

-- The same after the body was copied into a second buffer.
pub mic_zeroed : (body out copied ys : List ℕ) (p : Part) {m n : ℕ} → Lies 0 (length body) p → Wrote body m out copied
    → Wrote (replicate (p.end - p.start) 0) n (take (length copied - p.start) (drop p.start copied)) ys
    → put_mid p.start (length copied - p.start) copied ys ≡ with_mic body p (replicate (p.end - p.start) 0) ++ drop (length body) out
mic_zeroed body out copied ys p l c w =
    let zeros = replicate {A = ℕ} (p.end - p.start) 0 in
    let rest = drop (length body) out in
    let z : length zeros ≡ p.end - p.start = length-replicate {A = ℕ} (p.end - p.start) 0 in
    let s : p.start ≤ length copied = omega (arith, ap length c.leaves ∙ length-append body rest) in
    let n : length (take p.start copied ++ zeros) ≡ p.end =
    length-append (take p.start copied) zeros ∙ omega (arith, length-take-le p.start copied s) in
    (wrote_more (wrote_front copied p.start s) w).leaves
    ∙ ap (λ (k : ℕ). (take p.start copied ++ zeros) ++ drop k copied) n
    ∙ ap (λ (l : List ℕ). (take p.start l ++ zeros) ++ drop p.end l) c.leaves
    ∙ rw (take-append-le p.start body rest (omega arith), drop-append-le p.end body rest l.within)
    (sym (append_assoc (take p.start body ++ zeros) (drop p.end body) rest))
