-- What is written as PASN Parameters reads back, and what reads well was written so.
use mathlib.Core.Path.{◌≡◌, refl, sym, ap, ap₂, ◌∙◌}
use mathlib.Core.List.{List, [], ◌∷◌, ◌++◌, append_assoc, append-nil}
use Rattle.std.specs.Prelude.{Option, None, Some}
use Prim.Native.Nat.{ℕ, suc, ◌+◌, ◌-◌, ◌*◌, ◌/◌, ◌%◌, ◌<◌, ◌≤◌}
use native.Mathlib.Omega.{arith}
use native.Mathlib.Numerals.{add-one}
use borrow.Author.Tests.{le-ltb, le-leb, eq-eqb}
use lib.ListN.{length, take, drop, get_or, length-append, take-append-drop, length-drop}
use lib.Seq.{length-take-le, drop-cons, drop-drop, take_at, drop_at, get_or_at, drop-length, take-length}
use Rattle.octets.specs.Numbers.{le, octets}
use Rattle.octets.proofs.Numbers.{reads_back, length_octets, written_so}
use Rattle.elements.specs.Lies.{content}
use Rattle.parameters.specs.declared.Side.{Side}
use Rattle.parameters.specs.declared.Side.TheVariants.{Station, AccessPoint}
use Rattle.parameters.specs.declared.Comeback.{Comeback}
use Rattle.parameters.specs.declared.Offer.{Offer}
use Rattle.parameters.specs.Parameters.{bit0, bit1, offer_from, comeback_from, parameters_of, WithB0, counted, comeback_octets, offer_octets, bit, content_octets}
use Rattle.parameters.specs.ParametersInverse.{comeback_placed, offer_placed, comeback_in, offer_in, AfterFits, GroupFits, WhatIsWrittenReadsBack, WhatIsReadWasWritten}
use Rattle.parameters.proofs.Laws.{bit_most, reads_well}

-- the control octet's bits
low_bit : {A B : Type 0} (x : Option A) (y : Option B) → (bit x + 2 * bit y) % 2 ≡ bit x
low_bit x y = omega (arith, bit_most x, bit_most y)

high_bit : {A B : Type 0} (x : Option A) (y : Option B) → (bit x + 2 * bit y) / 2 % 2 ≡ bit y
high_bit x y = omega (arith, bit_most x, bit_most y)

-- What comes with B0 reads back behind a control octet and a format.
module _ (bits format : ℕ) where
  comeback_reads_back : (side : Side) (comeback : Option (WithB0 side)) (after : List ℕ) → bits % 2 ≡ bit comeback → AfterFits side comeback
      → comeback_from side (bits ∷ format ∷ (comeback_octets side comeback ++ after))
      ≡ Some (comeback_placed side comeback, 2 + length (comeback_octets side comeback))
  unfolding comeback_from octets
  comeback_reads_back side None rest b fits = rw b
  comeback_reads_back Station (Some cookie) rest b fits =
      let s : List ℕ = bits ∷ format ∷ (counted cookie ++ rest) in
      let place : 2 + suc (length cookie) ≡ 3 + length cookie = omega arith in
      rw (b, le-leb (3 + length cookie) (length s) (omega (arith, length-append cookie rest)), place)
  comeback_reads_back AccessPoint (Some (after, cookie)) rest b fits =
      let s : List ℕ = bits ∷ format ∷ (octets 2 after ++ (counted cookie ++ rest)) in
      let place : 2 + suc (suc (suc (length cookie))) ≡ 5 + length cookie = omega arith in
      rw (b, le-leb (5 + length cookie) (length s) (omega (arith, length-append cookie rest)), reads_back 2 after (bits ∷ format ∷ []) (counted cookie ++ rest) fits, place)

-- What comes with B1 reads back behind these and other octets.
module _ (bits format : ℕ) (xs : List ℕ) where
  offer_reads_back : (offer : Option (ℕ × List ℕ)) → bits / 2 % 2 ≡ bit offer → GroupFits offer
      → offer_from (bits ∷ format ∷ (xs ++ offer_octets offer)) (2 + length xs) ≡ Some (offer_placed (2 + length xs) offer)
  unfolding offer_from
  offer_reads_back None b fits = rw (b, eq-eqb (length (bits ∷ format ∷ (xs ++ []))) (2 + length xs) (omega (arith, length-append xs [])))
  offer_reads_back (Some (group, key)) b small =
      let s : List ℕ = bits ∷ format ∷ (xs ++ (octets 2 group ++ counted key)) in
      let n : length s ≡ 2 + length xs + 3 + length key =
      omega (arith, length-append xs (octets 2 group ++ counted key), length-append (octets 2 group) (counted key), length_octets 2 group) in
      let at : get_or s (2 + length xs + 2) 0 ≡ length key =
      ap (λ (l : List ℕ). get_or (bits ∷ format ∷ l) (2 + length xs + 2) 0) (sym (append_assoc xs (octets 2 group) (counted key)))
      ∙ get_or_at (bits ∷ format ∷ (xs ++ octets 2 group)) (length key) key 0 (2 + length xs + 2) (omega (arith, length-append xs (octets 2 group), length_octets 2 group)) in
      let place : suc (suc (length xs)) ≡ 2 + length xs = omega arith in
      let read : le 2 s (2 + length xs) ≡ group = rw place at (reads_back 2 group (bits ∷ format ∷ xs) (counted key) small) in
      rw (b, at, eq-eqb (length s) (2 + length xs + 3 + length key) n, read, n)

-- What is said stands where it is placed.
module _ (bits format : ℕ) (xs : List ℕ) where
  offer_says : (offer : Option (ℕ × List ℕ)) → offer_in (bits ∷ format ∷ (xs ++ offer_octets offer)) (offer_placed (2 + length xs) offer) ≡ offer
  offer_says None = refl
  offer_says (Some (group, key)) =
      let s : List ℕ = bits ∷ format ∷ (xs ++ (octets 2 group ++ counted key)) in
      let front : List ℕ = bits ∷ format ∷ ((xs ++ octets 2 group) ++ (length key ∷ [])) in
      let whole : s ≡ front ++ key =
      ap (λ (l : List ℕ). bits ∷ format ∷ l) (sym (append_assoc xs (octets 2 group) (counted key)) ∙ sym (append_assoc (xs ++ octets 2 group) (length key ∷ []) key)) in
      let n : length front ≡ 2 + length xs + 3 = omega (arith, length-append (xs ++ octets 2 group) (length key ∷ []), length-append xs (octets 2 group), length_octets 2 group) in
      let long : 2 + length xs + 3 + length key - (2 + length xs + 3) ≡ length key = omega arith in
      ap (λ (l : List ℕ). Some (group, l)) (ap (λ (l : List ℕ). take (2 + length xs + 3 + length key - (2 + length xs + 3)) (drop (2 + length xs + 3) l)) whole
      ∙ rw (drop_at front key (2 + length xs + 3) n, long, take-length key))

-- the octets at a place, before others
seam : (n : ℕ) (s xs ys : List ℕ) → drop n s ≡ xs ++ ys → take (n + length xs - n) (drop n s) ≡ xs
seam n s xs ys e =
    let long : n + length xs - n ≡ length xs = omega arith in
    rw (e, long) (take_at xs ys (length xs) refl)

module _ (bits format : ℕ) where
  comeback_says : (side : Side) (comeback : Option (WithB0 side)) (rest : List ℕ)
      → comeback_in side (bits ∷ format ∷ (comeback_octets side comeback ++ rest)) (comeback_placed side comeback) ≡ comeback
  unfolding octets
  comeback_says side None rest = refl
  comeback_says Station (Some cookie) rest = ap Some (seam 3 (bits ∷ format ∷ (counted cookie ++ rest)) cookie rest refl)
  comeback_says AccessPoint (Some (after, cookie)) rest =
      ap (λ (k : List ℕ). Some (after, k)) (seam 5 (bits ∷ format ∷ (octets 2 after ++ (counted cookie ++ rest))) cookie rest refl)

both_read : (side : Side) (s : List ℕ) {comeback : Option Comeback} {at : ℕ} {offer : Option Offer} → 2 ≤ length s → comeback_from side s ≡ Some (comeback, at)
    → offer_from s at ≡ Some offer
    → parameters_of side s ≡ Some (record { comeback = comeback; format = get_or s 1 0; offer = offer })
unfolding parameters_of
both_read side s two e f = rw (le-ltb (length s) 2 two, e, f)

pub written_reads_back : WhatIsWrittenReadsBack
unfolding content_octets octets
written_reads_back side said after group = record {
  reads = both_read side (content_octets side said) (omega arith) (comeback_reads_back bits said.format side said.comeback (offer_octets said.offer) (low_bit said.comeback said.offer) after)
      (offer_reads_back bits said.format x said.offer (high_bit said.comeback said.offer) group);
  says = ap₂ (λ (c : Option (WithB0 side)) (o : Option (ℕ × List ℕ)). record { comeback = c; format = said.format; offer = o })
      (comeback_says bits said.format side said.comeback (offer_octets said.offer)) (offer_says bits said.format x said.offer);
}
  where
    bits : ℕ
    bits = bit said.comeback + 2 * bit said.offer

    x : List ℕ
    x = comeback_octets side said.comeback

-- What stands at a place of a string: a length octet with its octets.
counted_at : (s : List ℕ) (at : ℕ) → at + 1 + get_or s at 0 ≤ length s
    → drop at s ≡ counted (take (at + 1 + get_or s at 0 - (at + 1)) (drop (at + 1) s)) ++ drop (at + 1 + get_or s at 0) s
counted_at s at h =
    let n : ℕ = get_or s at 0 in
    let m : at + 1 + n - (at + 1) ≡ n = omega arith in
    let long : length (take n (drop (at + 1) s)) ≡ n = length-take-le n (drop (at + 1) s) (omega (arith, length-drop (at + 1) s)) in
    rw (m, long)
    (drop-cons s at 0 (omega arith)
    ∙ ap (λ (l : List ℕ). n ∷ l)
    (ap (λ (k : ℕ). drop k s) (sym (add-one at)) ∙ sym (take-append-drop n (drop (at + 1) s)) ∙ ap (λ (l : List ℕ). take n (drop (at + 1) s) ++ l) (drop-drop n (at + 1) s)))

-- What comes with B0, as it was read, was written so up to the place after it.
pub record ComebackWas (side : Side) (s : List ℕ) (comeback : Option Comeback) (at : ℕ) : Type 0 where
  pub control : bit0 s ≡ bit (comeback_in side s comeback)
  pub stands : drop 2 s ≡ comeback_octets side (comeback_in side s comeback) ++ drop at s

comeback_was : (side : Side) (s : List ℕ) (comeback : Option Comeback) (at : ℕ) → ((i : ℕ) → get_or s i 0 < 256) → comeback_from side s ≡ Some (comeback, at)
    → ComebackWas side s comeback at
unfolding comeback_from
comeback_was side s None at small e =
    let place : at ≡ 2 = grind arith in
    record { control = grind arith; stands = rw place }
comeback_was Station s (Some (Comeback.Cookie cookie)) at small e =
    let start : cookie.start ≡ 3 = grind arith in
    let end : cookie.end ≡ 3 + get_or s 2 0 = grind arith in
    let place : at ≡ 3 + get_or s 2 0 = grind arith in
    record { control = grind arith; stands = rw (start, end, place) (counted_at s 2 (grind arith)) }
comeback_was AccessPoint s (Some (Comeback.Cookie cookie)) at small e = absurd (grind arith)
comeback_was Station s (Some (Comeback.After after cookie)) at small e = absurd (grind arith)
comeback_was AccessPoint s (Some (Comeback.After after cookie)) at small e =
    let start : cookie.start ≡ 5 = grind arith in
    let end : cookie.end ≡ 5 + get_or s 4 0 = grind arith in
    let place : at ≡ 5 + get_or s 4 0 = grind arith in
    let number : after ≡ le 2 s 2 = grind arith in
    record {
      control = grind arith;
      stands = rw (start, end, place, number)
          (written_so 2 s 2 small (grind arith)
          ∙ ap (λ (l : List ℕ). octets 2 (le 2 s 2) ++ l) (counted_at s 4 (grind arith))
          ∙ sym (append_assoc (octets 2 (le 2 s 2)) (counted (content s (record { start = 5; end = 5 + get_or s 4 0 }))) (drop (5 + get_or s 4 0) s)));
    }

-- and what comes with B1, from there to the end
pub record OfferWas (s : List ℕ) (at : ℕ) (offer : Option Offer) : Type 0 where
  pub control : bit1 s ≡ bit (offer_in s offer)
  pub stands : drop at s ≡ offer_octets (offer_in s offer)

offer_was : (s : List ℕ) (at : ℕ) (offer : Option Offer) → ((i : ℕ) → get_or s i 0 < 256) → offer_from s at ≡ Some offer → OfferWas s at offer
unfolding offer_from
offer_was s at None small e =
    let place : at ≡ length s = grind arith in
    record { control = grind arith; stands = rw (place, drop-length s) }
offer_was s at (Some o) small e =
    let start : o.key.start ≡ at + 3 = grind arith in
    let end : o.key.end ≡ at + 3 + get_or s (at + 2) 0 = grind arith in
    let whole : length s ≡ at + 3 + get_or s (at + 2) 0 = grind arith in
    let number : o.group ≡ le 2 s at = grind arith in
    let place : at + 2 + 1 ≡ at + 3 = omega arith in
    let rest : drop (at + 3 + get_or s (at + 2) 0) s ≡ [] = rw (← whole) (drop-length s) in
    let key = rw (place, rest, append-nil (take (at + 3 + get_or s (at + 2) 0 - (at + 3)) (drop (at + 3) s))) at (counted_at s (at + 2) (grind arith)) in
    record {
      control = grind arith;
      stands = rw (start, end, number) (written_so 2 s at small (grind arith) ∙ ap (λ (l : List ℕ). octets 2 (le 2 s at) ++ l) key);
    }

pub read_was_written : WhatIsReadWasWritten
unfolding content_octets
read_was_written side s small p e =
    let w = reads_well side s p e in
    let c = comeback_was side s p.comeback w.at small w.comeback in
    let o = offer_was s w.at p.offer small w.offer in
    let bits : get_or s 0 0 % 4 ≡ bit (comeback_in side s p.comeback) + 2 * bit (offer_in s p.offer) = omega (arith, c.control, o.control) in
    rw (bits, w.format)
    (ap (λ (l : List ℕ). (bit (comeback_in side s p.comeback) + 2 * bit (offer_in s p.offer)) ∷ l)
    (drop-cons s 1 0 (omega (arith, w.two))
    ∙ ap (λ (l : List ℕ). get_or s 1 0 ∷ l) (c.stands ∙ ap (λ (l : List ℕ). comeback_octets side (comeback_in side s p.comeback) ++ l) o.stands)))
