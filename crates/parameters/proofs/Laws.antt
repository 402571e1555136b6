-- Laws by which PASN Parameters are read and written, and where what is read lies in the content.
use mathlib.Core.Path.{◌≡◌, refl, ap₂}
use mathlib.Core.List.{List, [], ◌∷◌, ◌++◌, append_assoc}
use Rattle.std.specs.Prelude.{Option, None, Some, IfSome, if◌then◌else◌}
use Prim.Native.Nat.{ℕ, ◌+◌, ◌-◌, ◌*◌, ◌≤◌}
use native.Mathlib.Omega.{arith}
use lib.Dec.{ltb}
use lib.ListN.{length, drop, get_or, length-append}
use Rattle.octets.specs.Maybe.{◌>>=◌}
use Rattle.octets.specs.Numbers.{octets}
use Rattle.octets.specs.Wrote.{Wrote}
use Rattle.octets.proofs.Writers.{wrote_over}
use Rattle.elements.specs.Lies.{Lies}
use Rattle.parameters.specs.declared.Side.{Side}
use Rattle.parameters.specs.declared.Side.TheVariants.{Station, AccessPoint}
use Rattle.parameters.specs.declared.Comeback.{Comeback}
use Rattle.parameters.specs.declared.Offer.{Offer}
use Rattle.parameters.specs.declared.Parameters.{Parameters}
use Rattle.parameters.specs.declared.ComebackToWrite.{ComebackToWrite}
use Rattle.parameters.specs.declared.ToWrite.{ToWrite}
use Rattle.parameters.specs.Parameters.{comeback_from, offer_from, parameters_of, Said, comeback_octets, offer_octets, bit, control, content_octets, parameters_octets, parameters_size, comeback_by, offer_by, said_by}

pub bit_most : {A : Type 0} (o : Option A) → bit o ≤ 1
bit_most None = omega arith
bit_most (Some x) = omega arith

-- the control octet looks at no octets of a cookie or a key
pub control_by : (written : ToWrite) (cookie key : List ℕ) → bit written.comeback + 2 * bit written.offer ≡ control (said_by written cookie key)
control_by written cookie key = ap₂ (λ (m n : ℕ). m + 2 * n) (comeback written.comeback) (offer written.offer)
  where
    comeback : (k : Option ComebackToWrite) → bit k ≡ bit (comeback_by k cookie)
    comeback (Some ComebackToWrite.Cookie) = refl
    comeback (Some (ComebackToWrite.After after)) = refl
    comeback None = refl

    offer : (k : Option ℕ) → bit k ≡ bit (offer_by k key)
    offer (Some group) = refl
    offer None = refl

module _ (side : Side) (said : Said side) where
  pub length_parameters : length (parameters_octets side said) ≡ length (comeback_octets side said.comeback) + length (offer_octets said.offer) + 5
  unfolding parameters_octets content_octets
  length_parameters = omega (arith, length-append (comeback_octets side said.comeback) (offer_octets said.offer))

  pub after_the_extension : drop 3 (parameters_octets side said) ≡ content_octets side said
  unfolding parameters_octets
  after_the_extension = refl

  -- what comes with the bits is written behind room for the rest, and then the rest
  pub wrote_parameters : (front : List ℕ) {before mid after : List ℕ} {end k bits : ℕ} → length front ≡ 5
      → Wrote ((front ++ comeback_octets side said.comeback) ++ offer_octets said.offer) end before mid
      → Wrote (255 ∷ (end - 2) ∷ 100 ∷ bits ∷ said.format ∷ []) k mid after → bits ≡ control said
      → Wrote (parameters_octets side said) end before after
  unfolding parameters_octets content_octets
  wrote_parameters front {before} {mid} {after} {end} {k} {bits} five w v e =
      let x = comeback_octets side said.comeback in
      let y = offer_octets said.offer in
      let whole : Wrote (front ++ (x ++ y)) end before mid = rw append_assoc at w in
      let told : end - 2 ≡ length (control said ∷ said.format ∷ (x ++ y)) + 1 = omega (arith, whole.tells, length-append front (x ++ y)) in
      rw (← e, ← told) (wrote_over front (x ++ y) five whole v)

-- with a group and a key and nothing else
pub length_with_key : (side : Side) (format group : ℕ) (key : List ℕ)
    → length (parameters_octets side (record { comeback = None; format = format; offer = Some (group, key) })) ≡ length key + parameters_size
unfolding octets
length_with_key side format group key =
    omega (arith, length_parameters side (record { comeback = None; format = format; offer = Some (group, key) }))

-- with Comeback After and a cookie and nothing else
pub length_come_back : (format after : ℕ) (cookie : List ℕ)
    → length (parameters_octets AccessPoint (record { comeback = Some (after, cookie); format = format; offer = None })) ≡ length cookie + parameters_size
unfolding octets
length_come_back format after cookie =
    omega (arith, length_parameters AccessPoint (record { comeback = Some (after, cookie); format = format; offer = None }))

-- Each part of what was read lies in a content of n octets.
abbrev pub ComebackLies : ℕ → Option Comeback → Type 0
ComebackLies n (Some (Comeback.Cookie cookie)) = Lies 0 n cookie
ComebackLies n (Some (Comeback.After after cookie)) = Lies 0 n cookie
ComebackLies n None = Unit {0}

abbrev pub OfferLies : ℕ → Option Offer → Type 0
OfferLies n offer = IfSome offer (λ o. Lies 0 n o.key)

pub record PartsLie (n : ℕ) (r : Parameters) : Type 0 where
  pub comeback : ComebackLies n r.comeback
  pub offer : OfferLies n r.offer

-- What comes with B0 ends in the content.
pub comeback_ends : (side : Side) (s : List ℕ) {comeback : Option Comeback} {at : ℕ} → 2 ≤ length s → comeback_from side s ≡ Some (comeback, at) → (2 ≤ at) × (at ≤ length s)
unfolding comeback_from
comeback_ends side s two e = (grind arith, grind arith)

comeback_lies : (side : Side) (s : List ℕ) (comeback : Option Comeback) {at : ℕ} → comeback_from side s ≡ Some (comeback, at) → ComebackLies (length s) comeback
unfolding comeback_from
comeback_lies side s None e = tt
comeback_lies Station s (Some (Comeback.Cookie cookie)) e = record { long = grind arith; within = grind arith }
comeback_lies AccessPoint s (Some (Comeback.Cookie cookie)) e = record { long = grind arith; within = grind arith }
comeback_lies Station s (Some (Comeback.After after cookie)) e = record { long = grind arith; within = grind arith }
comeback_lies AccessPoint s (Some (Comeback.After after cookie)) e = record { long = grind arith; within = grind arith }

offer_lies : (s : List ℕ) (at : ℕ) (offer : Option Offer) → offer_from s at ≡ Some offer → OfferLies (length s) offer
unfolding offer_from
offer_lies s at None e = tt
offer_lies s at (Some o) e = record { long = grind arith; within = grind arith }

-- What reads well, in its two steps.
pub record Read (side : Side) (s : List ℕ) (r : Parameters) : Type 0 where
  pub two : 2 ≤ length s
  pub at : ℕ
  pub comeback : comeback_from side s ≡ Some (r.comeback, at)
  pub format : r.format ≡ get_or s 1 0
  pub offer : offer_from s at ≡ Some r.offer

pub reads_well : (side : Side) (s : List ℕ) (r : Parameters) → parameters_of side s ≡ Some r → Read side s r
unfolding parameters_of
reads_well side s r e = go (comeback_from side s) refl e
  where
    go : (k : Option (Option Comeback × ℕ)) → comeback_from side s ≡ k
        → (if ltb (length s) 2 then None
        else k >>= λ p. offer_from s p.1 >>= λ o. Some (record { comeback = p.0; format = get_or s 1 0; offer = o }))
        ≡ Some r
        → Read side s r
    go None is e = absurd (grind arith)
    go (Some (comeback, at)) is e = record { two = grind arith; at = at; comeback = grind arith; format = grind arith; offer = grind arith }

pub parts_lie : (s : List ℕ) (side : Side) {r : Parameters} → parameters_of side s ≡ Some r → PartsLie (length s) r
parts_lie s side e =
    let w = reads_well _ _ _ e in
    record { comeback = comeback_lies side s _ w.comeback; offer = offer_lies s _ _ w.offer }
