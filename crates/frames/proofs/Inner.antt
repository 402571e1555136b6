-- Parts of parts: where what an element says lies in the body.
use mathlib.Core.Path.{◌≡◌, subst, ◌∙◌}
use mathlib.Core.List.{List}
use Prim.Native.Nat.{ℕ, ◌+◌, ◌-◌}
use native.Mathlib.Omega.{arith}
use lib.ListN.{length, drop, length-take, length-drop}
use Rattle.std.specs.Prelude.{Some}
use Rattle.elements.specs.declared.Part.{Part}
use Rattle.elements.specs.Lies.{Lies, content}
use Rattle.parameters.specs.declared.Offer.{Offer}
use Rattle.parameters.specs.declared.Parameters.{Parameters}
use Rattle.parameters.specs.declared.Side.{Side}
use Rattle.rsne.specs.declared.Rsne.{Rsne}
use Rattle.parameters.specs.Parameters.{parameters_of}
use Rattle.rsne.specs.Rsne.{rsne_of}
use Rattle.parameters.proofs.Laws.{OfferLies, parts_lie}
use Rattle.rsne.proofs.Laws.{pmkids_lie}
use Rattle.frames.specs.Contents.{shifted, extended}

pub length_content : (s : List ℕ) (p : Part) → Lies 0 (length s) p → length (content s p) ≡ p.end - p.start
length_content s p l = length-take (p.end - p.start) (drop p.start s) ∙ omega (arith, length-drop p.start s)

pub shifted_lies : (s : List ℕ) (p q : Part) → Lies 0 (length s) p → Lies 0 (length (content s p)) q → Lies 0 (length s) (shifted p.start q)
shifted_lies s p q l m = record { long = omega arith; within = omega (arith, length_content s p l) }

-- what follows an extension ID
pub extended_lies : {n : ℕ} {p : Part} → Lies 1 n p → Lies 0 n (extended p)
extended_lies l = record { long = omega arith; within = l.within }

-- the PMKIDs of an RSNE, and the key of PASN Parameters, as parts of the body
pub rsne_lies : (body : List ℕ) {p : Part} {r : Rsne} → Lies 0 (length body) p → rsne_of (content body p) ≡ Some r
    → Lies 0 (length body) (shifted p.start r.pmkids)
rsne_lies body {p} {r} l e = shifted_lies body p r.pmkids l (pmkids_lie (content body p) e).lies

pub key_lies : (body : List ℕ) (side : Side) {p : Part} {r : Parameters} {offer : Offer} → Lies 1 (length body) p
    → parameters_of side (content body (extended p)) ≡ Some r → r.offer ≡ Some offer
    → Lies 0 (length body) (shifted (p.start + 1) offer.key)
key_lies body side {p} {r} {offer} l e o =
    shifted_lies body (extended p) offer.key (extended_lies l)
    (subst (OfferLies (length (content body (extended p)))) o (parts_lie (content body (extended p)) side e).offer)
