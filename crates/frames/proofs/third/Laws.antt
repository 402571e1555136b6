-- A third frame that is read: its steps, by element, and where its MIC lies.
use mathlib.Core.Path.{◌≡◌, refl, subst}
use mathlib.Core.List.{List}
use Prim.Native.Nat.{ℕ, ◌-◌}
use lib.Dec.{eqb}
use lib.ListN.{length}
use Rattle.std.specs.Prelude.{Some, is_none}
use Rattle.std.specs.Result.{result_ok}
use Rattle.octets.proofs.Options.{some-injective}
use Rattle.elements.specs.declared.Part.{Part}
use Rattle.elements.specs.Lies.{Lies, content}
use Rattle.scan.specs.declared.Places.{Places}
use Rattle.scan.specs.Scan.{scan_of}
use Rattle.scan.specs.Times.{once, is_never}
use Rattle.parameters.specs.declared.Side.TheVariants.{Station}
use Rattle.parameters.specs.Parameters.{parameters_of}
use Rattle.frames.specs.Contents.{extended, holds}
use Rattle.frames.specs.Third.{third_of}
use Rattle.frames.specs.ByElement.{quiet_in, mic_in}
use Rattle.frames.proofs.Chain.{found}
use Rattle.frames.proofs.Steps.{walked_lies, once_lies}

-- the steps after the walk
pub record ThirdSteps (body : List ℕ) (n : ℕ) (places : Places) (mic : Part) : Type 0 where
  pub fragment : holds (is_never places.fragment) ≡ Some tt
  pub wrapped : holds (is_never places.wrapped) ≡ Some tt
  pub quiet : quiet_in body places.parameters ≡ Some tt
  pub told : mic_in places.mic n ≡ Some mic

-- A walked body is a third frame exactly if each of its elements passes its step.
module _ (body : List ℕ) (n : ℕ) {places : Places} (walked : result_ok (scan_of body) ≡ Some places) {mic : Part} where
  pub third_steps : third_of body n ≡ Some mic → ThirdSteps body n places mic
  unfolding third_of
  third_steps e =
      found (holds (is_never places.fragment)) (rw walked at e) λ u fragment e.
      found (once places.parameters) e λ at_parameters one_parameters e.
      found (once places.mic) e λ at_mic one_mic e.
      found (parameters_of Station (content body (extended at_parameters))) e λ parameters says e.
      found (holds (is_none parameters.comeback)) e λ v b0 e.
      found (holds (is_none parameters.offer)) e λ w b1 e.
      found (holds (eqb parameters.format 0)) e λ x format e.
      found (holds (is_never places.wrapped)) e λ y wrapped e.
      found (holds (eqb (at_mic.end - at_mic.start) n)) e λ z long e.
      record {
        fragment = fragment;
        wrapped = wrapped;
        quiet = rw (one_parameters, says, b0, b1, format);
        told = rw (one_mic, long) e;
      }

  pub third_made : ThirdSteps body n places mic → third_of body n ≡ Some mic
  unfolding third_of
  third_made s =
      found (once places.parameters) s.quiet λ at_parameters one_parameters e.
      found (parameters_of Station (content body (extended at_parameters))) e λ parameters says e.
      found (holds (is_none parameters.comeback)) e λ v b0 e.
      found (holds (is_none parameters.offer)) e λ w b1 format.
      found (once places.mic) s.told λ at_mic one_mic e.
      found (holds (eqb (at_mic.end - at_mic.start) n)) e λ z long told.
      rw (walked, s.fragment, one_parameters, one_mic, says, b0, b1, format, s.wrapped, long) told

-- The MIC of a third frame lies within its body.
pub third_lies : (body : List ℕ) (n : ℕ) {mic : Part} → third_of body n ≡ Some mic → Lies 0 (length body) mic
unfolding third_of
third_lies body n e =
    found (result_ok (scan_of body)) e λ places walked rest.
    found (once places.mic) (third_steps body n walked e).told λ at one e.
    found (holds (eqb (at.end - at.start) n)) e λ z long told.
    subst (Lies 0 (length body)) (some-injective _ _ told)
    (once_lies places.mic (walked_lies body refl refl walked).mic one)
