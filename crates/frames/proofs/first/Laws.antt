-- A first frame that is read: its steps, by element; where what it tells lies; and that a lifetime that it asks for is not 0.
use mathlib.Core.Path.{◌≡◌, refl, ap, subst}
use mathlib.Core.List.{List}
use Prim.Native.Nat.{ℕ, ◌<◌}
use lib.Dec.{ltb}
use lib.ListN.{length}
use Rattle.std.specs.Prelude.{Option, None, Some}
use Rattle.std.specs.Result.{result_ok}
use Rattle.octets.proofs.Options.{some-injective}
use Rattle.units.specs.declared.Seconds.{Seconds}
use Rattle.elements.specs.declared.Part.{Part}
use Rattle.elements.specs.Lies.{Lies, content}
use Rattle.scan.specs.declared.Places.{Places}
use Rattle.scan.specs.Scan.{scan_of}
use Rattle.scan.specs.Times.{once, at_most_once, is_never}
use Rattle.parameters.specs.declared.Offer.{Offer}
use Rattle.parameters.specs.declared.Side.TheVariants.{Station}
use Rattle.parameters.specs.Parameters.{parameters_of}
use Rattle.rsne.specs.declared.Rsne.{Rsne}
use Rattle.rsne.specs.Rsne.{rsne_of}
use Rattle.layouts.specs.Timeout.{timeout_of}
use Rattle.layouts.proofs.timeout.Laws.{timeout_asks}
use Rattle.frames.specs.declared.first.Facts.{Facts}
use Rattle.frames.specs.Contents.{extended, holds, lifetime_at}
use Rattle.frames.specs.First.{is_wrapped, first_of, FactsLie}
use Rattle.frames.specs.ByElement.{rsne_in, lifetime_in, offered_in, wrapped_in}
use Rattle.frames.proofs.Chain.{found}
use Rattle.frames.proofs.Inner.{rsne_lies, key_lies}
use Rattle.frames.proofs.Steps.{walked_lies, once_lies}

-- the steps after the walk
pub record FirstSteps (body : List ℕ) (places : Places) (facts : Facts) : Type 0 where
  pub fragment : holds (is_never places.fragment) ≡ Some tt
  pub rsne : rsne_in body places.rsne ≡ Some facts.rsne
  pub lifetime : lifetime_in body places.timeout ≡ Some facts.lifetime
  pub offered : offered_in body places.parameters ≡ Some (facts.format, record { group = facts.group; key = facts.key })
  pub wrapped : wrapped_in facts.format places.wrapped ≡ Some tt

-- A walked body is a first frame exactly if each of its elements passes its step.
module _ (body : List ℕ) {places : Places} (walked : result_ok (scan_of body) ≡ Some places) {facts : Facts} where
  pub first_steps : first_of body ≡ Some facts → FirstSteps body places facts
  unfolding first_of
  first_steps e =
      found (holds (is_never places.fragment)) (rw walked at e) λ u fragment e.
      found (once places.rsne) e λ at_rsne one_rsne e.
      found (at_most_once places.timeout) e λ at_timeout one_timeout e.
      found (once places.parameters) e λ at_parameters one_parameters e.
      found (at_most_once places.wrapped) e λ at_wrapped one_wrapped e.
      found (rsne_of (content body at_rsne)) e λ rsne reads e.
      found (lifetime_at body at_timeout) e λ lifetime asks e.
      found (parameters_of Station (content body (extended at_parameters))) e λ parameters says e.
      found (holds (ltb parameters.format 4)) e λ v unreserved e.
      found (holds (is_wrapped parameters.format at_wrapped)) e λ w as_said e.
      found parameters.offer e λ offer key e.
      subst (FirstSteps body places) (some-injective _ _ e)
      (record {
        fragment = fragment;
        rsne = rw (one_rsne, reads);
        lifetime = rw (one_timeout, asks);
        offered = rw (one_parameters, says, key);
        wrapped = rw (one_wrapped, unreserved, as_said);
      })

  pub first_made : FirstSteps body places facts → first_of body ≡ Some facts
  unfolding first_of
  first_made s =
      found (once places.rsne) s.rsne λ at_rsne one_rsne e.
      found (rsne_of (content body at_rsne)) e λ rsne reads r.
      found (at_most_once places.timeout) s.lifetime λ at_timeout one_timeout asks.
      found (once places.parameters) s.offered λ at_parameters one_parameters e.
      found (parameters_of Station (content body (extended at_parameters))) e λ parameters says e.
      found parameters.offer e λ offer key o.
      found (at_most_once places.wrapped) s.wrapped λ at_wrapped one_wrapped e.
      found (holds (ltb facts.format 4)) e λ v unreserved as_said.
      let told = some-injective _ _ o in
      rw (
        walked,
        s.fragment,
        one_rsne,
        one_timeout,
        one_parameters,
        one_wrapped,
        reads,
        asks,
        says,
        ap (λ (x : ℕ × Offer). x.0) told,
        unreserved,
        as_said,
        key,
        some-injective _ _ r,
        ap (λ (x : ℕ × Offer). x.1.group) told,
        ap (λ (x : ℕ × Offer). x.1.key) told,
      )

-- What a first frame tells lies within its body.
pub first_lies : (body : List ℕ) {facts : Facts} → first_of body ≡ Some facts → FactsLie (length body) facts
unfolding first_of
first_lies body e =
    found (result_ok (scan_of body)) e λ places walked rest.
    let s = first_steps body walked e in
    let w = walked_lies body refl refl walked in
    record {
      pmkids =
          found (once places.rsne) s.rsne λ at one e.
          found (rsne_of (content body at)) e λ r reads told.
          subst (λ (x : Rsne). Lies 0 (length body) x.pmkids) (some-injective _ _ told)
          (rsne_lies body (once_lies places.rsne w.rsne one) reads);
      key =
          found (once places.parameters) s.offered λ at one e.
          found (parameters_of Station (content body (extended at))) e λ p says e.
          found p.offer e λ offer key told.
          subst (λ (x : ℕ × Offer). Lies 0 (length body) x.1.key) (some-injective _ _ told)
          (key_lies body Station (once_lies places.parameters w.parameters one) says key);
    }

-- not 0, where there is one
abbrev pub Asks : Option Seconds → Type 0
Asks (Some seconds) = 0 < seconds.0
Asks None = Unit {0}

lifetime_asks : (body : List ℕ) (at : Option Part) {lifetime : Option Seconds} → lifetime_at body at ≡ Some lifetime → Asks lifetime
lifetime_asks body None e = subst Asks (some-injective _ _ e) tt
lifetime_asks body (Some at) e =
    found (timeout_of (content body at)) e λ seconds reads told.
    subst Asks (some-injective _ _ told) (timeout_asks (content body at) reads)

-- A lifetime that a first frame asks for is not 0.
pub first_asks : (body : List ℕ) {facts : Facts} → first_of body ≡ Some facts → Asks facts.lifetime
unfolding first_of
first_asks body e =
    found (result_ok (scan_of body)) e λ places walked rest.
    found (at_most_once places.timeout) (first_steps body walked e).lifetime λ at one asks.
    lifetime_asks body at asks
