-- Setting and zeroing the MIC: the body is walked as before, and nothing is left of the MIC that stood there.
use mathlib.Core.Path.{◌≡◌, refl, sym, ap, ap₂, ◌∙◌, subst}
use mathlib.Core.Bool.{Bool, true, false}
use mathlib.Core.List.{List, ◌++◌, append_assoc, append-nil}
use Prim.Native.Nat.{ℕ, ◌+◌, ◌-◌, ◌<◌, ◌≤◌}
use native.Mathlib.Omega.{arith}
use borrow.Author.Tests.{eqb-true, eq-eqb, le-ltb}
use lib.Dec.{eqb, ltb}
use lib.ListN.{length, take, drop, get_or, replicate, length-append, length-drop, length-replicate, get_or-append}
use lib.Seq.{length-take-le, take_at, drop_at, drop-length, get_or-take, get_or-drop, get_or-append-add}
use Rattle.std.specs.Prelude.{Option, None, Some, if◌then◌else◌}
use Rattle.octets.proofs.Choice.{either_way}
use Rattle.elements.specs.declared.Part.{Part}
use Rattle.elements.specs.Walk.{walk_body}
use Rattle.elements.specs.Lies.{Lies}
use Rattle.scan.proofs.Unread.{SameBut, Inside, SomeOf, InsideIf, SameRead, same_read, mic_inside}
use Rattle.chip.specs.Chip.{mic_in, with_mic, zero_number_at, zero_number, zeroed_at, zeroed, set_at, set_octets}
use Rattle.chip.proofs.Laws.{mic_found, mic_lies}

mic_in_inside : (body : List ℕ) {p : Part} → mic_in body ≡ Some p → SomeOf (Inside p) (walk_body body)
mic_in_inside body e =
    let f = mic_found body e in
    subst (InsideIf (walk_body body)) f.one (mic_inside body f.places f.walked)

same_mic : {s t : List ℕ} → SameRead s t → mic_in t ≡ mic_in s
unfolding mic_in
same_mic r = rw (r.opens, r.scans)

-- A MIC of the length of the one that stands is written over it.
module _ (body m : List ℕ) (p : Part) (found : mic_in body ≡ Some p) (long : p.end - p.start ≡ length m) where
  lies : Lies 0 (length body) p
  lies = mic_lies body p found

  front : length (take p.start body) ≡ p.start
  front = length-take-le p.start body (omega (arith, lies.long, lies.within))

  front_and_mic : length (take p.start body ++ m) ≡ p.end
  front_and_mic = length-append (take p.start body) m ∙ omega (arith, front, lies.long)

  pub same_length : length (with_mic body p m) ≡ length body
  same_length = length-append (take p.start body ++ m) (drop p.end body) ∙ omega (arith, front_and_mic, length-drop p.end body, lies.within)

  pub last_mic_stays : (n : List ℕ) → with_mic (with_mic body p m) p n ≡ with_mic body p n
  last_mic_stays n =
      rw (
        drop_at (take p.start body ++ m) (drop p.end body) p.end front_and_mic,
        append_assoc (take p.start body) m (drop p.end body),
        take_at (take p.start body) (m ++ drop p.end body) p.start front,
      )

  same_before : (i : ℕ) → i < p.start → get_or (with_mic body p m) i 0 ≡ get_or body i 0
  same_before i h =
      get_or-append (take p.start body ++ m) (drop p.end body) 0 i (omega (arith, front_and_mic, lies.long))
      ∙ get_or-append (take p.start body) m 0 i (omega (arith, front))
      ∙ get_or-take p.start body i 0 h

  same_after : (i : ℕ) → p.end ≤ i → get_or (with_mic body p m) i 0 ≡ get_or body i 0
  same_after i h =
      let n : i ≡ length (take p.start body ++ m) + (i - p.end) = omega (arith, front_and_mic) in
      let k : p.end + (i - p.end) ≡ i = omega arith in
      ap (λ (j : ℕ). get_or (with_mic body p m) j 0) n
      ∙ get_or-append-add (take p.start body ++ m) (drop p.end body) (i - p.end) 0
      ∙ get_or-drop p.end body (i - p.end) 0
      ∙ ap (λ (j : ℕ). get_or body j 0) k

  same_but : SameBut p body (with_mic body p m)
  same_but = record { long = sym same_length; before = λ i h. sym (same_before i h); after = λ i h. sym (same_after i h) }

  pub same_body : SameRead body (with_mic body p m)
  same_body = same_read p body (with_mic body p m) same_but (mic_in_inside body found)

  pub same_place : mic_in (with_mic body p m) ≡ Some p
  same_place = same_mic same_body ∙ found

-- What holds of the body, and of it with the MIC written, holds after setting.
module _ (body m : List ℕ) (P : List ℕ → Type 0) (kept : P body)
    (written : (p : Part) → mic_in body ≡ Some p → p.end - p.start ≡ length m → P (with_mic body p m)) where
  after_set : P (set_octets body m)
  unfolding set_octets
  after_set = go (mic_in body) refl
    where
      go : (x : Option Part) → mic_in body ≡ x → P (set_at body m x)
      go (Some p) at = either_way P (eqb (p.end - p.start) (length m)) (λ e. written p at (eqb-true (p.end - p.start) (length m) e)) (λ e. kept)
      go None at = kept

module _ (body m : List ℕ) where
  pub set_keeps_length : length (set_octets body m) ≡ length body
  set_keeps_length = after_set body m (λ s. length s ≡ length body) refl (same_length body m)

  pub set_keeps_body : SameRead body (set_octets body m)
  set_keeps_body = after_set body m (SameRead body) (record { opens = refl; walks = refl; scans = refl }) (same_body body m)

  pub set_keeps_walk : walk_body (set_octets body m) ≡ walk_body body
  set_keeps_walk = sym set_keeps_body.walks

  pub set_keeps_place : mic_in (set_octets body m) ≡ mic_in body
  set_keeps_place = same_mic set_keeps_body

  pub zero_number_after_set : (k : ℕ) → zero_number (set_octets body m) k ≡ zero_number body k
  unfolding zero_number
  zero_number_after_set k = ap₂ (λ (n : ℕ) (x : Option Part). zero_number_at n k x) set_keeps_length set_keeps_place

  pub zero_after_set : (out : List ℕ) → zeroed (set_octets body m) out ≡ zeroed body out
  unfolding zeroed
  zero_after_set out = after_set body m (λ s. zeroed s out ≡ zeroed body out) refl written
    where
      written : (p : Part) → mic_in body ≡ Some p → p.end - p.start ≡ length m → zeroed (with_mic body p m) out ≡ zeroed body out
      written p at e =
          ap (zeroed_at (with_mic body p m) out) (same_place body m p at e)
          ∙ ap₂ (λ (n : ℕ) (s : List ℕ). if ltb (length out) n then out else s ++ drop n out) (same_length body m p at e)
          (last_mic_stays body m p at e (replicate (p.end - p.start) 0))
          ∙ sym (ap (zeroed_at body out) at)

zeros_long : (p : Part) → p.end - p.start ≡ length (replicate {A = ℕ} (p.end - p.start) 0)
zeros_long p = sym (length-replicate (p.end - p.start) 0)

-- Setting the zeros is zeroing in place.
pub set_zeros : (body : List ℕ) (p : Part) → mic_in body ≡ Some p → set_octets body (replicate (p.end - p.start) 0) ≡ zeroed body body
unfolding set_octets zeroed
set_zeros body p at =
    rw (
      at,
      eq-eqb (p.end - p.start) (length (replicate {A = ℕ} (p.end - p.start) 0)) (zeros_long p),
      le-ltb (length body) (length body) (omega arith),
      drop-length,
      append-nil,
    )

pub zero_keeps_walk : (body out : List ℕ) → zero_number body (length out) ≡ 19 → walk_body (take (length body) (zeroed body out)) ≡ walk_body body
unfolding zero_number zeroed
zero_keeps_walk body out = go (mic_in body) refl
  where
    fits : (p : Part) → mic_in body ≡ Some p → (b : Bool) → ◌≡◌ {A = ℕ} (if b then 2 else 19) 19
        → walk_body (take (length body) (if b then out else with_mic body p (replicate (p.end - p.start) 0) ++ drop (length body) out)) ≡ walk_body body
    fits p at true q = absurd (omega (arith, q))
    fits p at false q =
        let zeros = replicate {A = ℕ} (p.end - p.start) 0 in
        let e = zeros_long p in
        ap walk_body (take_at (with_mic body p zeros) (drop (length body) out) (length body) (same_length body zeros p at e)) ∙ sym (same_body body zeros p at e).walks

    go : (x : Option Part) → mic_in body ≡ x → zero_number_at (length body) (length out) x ≡ 19
        → walk_body (take (length body) (zeroed_at body out x)) ≡ walk_body body
    go (Some p) at q = fits p at (ltb (length out) (length body)) q
    go None at q = absurd (omega (arith, q))
