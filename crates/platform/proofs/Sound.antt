-- A body's outcome is none of the answers 1 to 5. A record that it makes is of this address and has a place, if the one that there was did.
use mathlib.Core.Path.{◌≡◌, refl}
use mathlib.Core.Bool.{Bool, true, false, not}
use Rattle.std.specs.Prelude.{Option, None, Some, Ok, Err, if◌then◌else◌}
use Prim.Native.Nat.{ℕ}
use lib.Dec.{eqb}
use Rattle.octets.specs.Equality.{same_octets}
use Rattle.octets.proofs.Choice.{either_way}
use Rattle.elements.specs.declared.Header.{Header}
use Rattle.elements.specs.declared.Part.{Part}
use Rattle.suites.specs.declared.Akm.{Akm}
use Rattle.suites.specs.Tables.{akm_of, is_key_of}
use Rattle.elements.specs.Lies.{content}
use Rattle.frames.specs.Third.{third_of}
use Rattle.peers.specs.declared.Peer.{Peer}
use Rattle.rules.specs.declared.Passed.{Passed}
use Rattle.rules.specs.OnePeer.{Call, answer_number, is_early, same, becomes, Outcome, gone_if, terms_of, is_waiting, is_installed, waits, Step, steps, first_outcome, first_frame, third_mic, third_akm, third_frame, on_body}
use Rattle.rules.proofs.Inversion.{passes}
use Rattle.platform.specs.Inside.{Seats}

module _ (call : Call) (full : Bool) where
  -- a record that there is is of this address, and has its place
  abbrev pub Placed : Option Peer → Type 0
  Placed None = Unit {0}
  Placed (Some p) = Seats call.brought.address full (becomes p)

  pub record Sound (own : Option Peer) (o : Outcome) : Type 0 where
    pub seats : Placed own → Seats call.brought.address full o.leaves
    pub late : is_early (answer_number o.answer) ≡ false

  -- what leaves no record, or the same, is sound
  quiet : {own : Option Peer} {o : Outcome} → Seats call.brought.address full o.leaves → is_early (answer_number o.answer) ≡ false → Sound own o
  quiet s l = record { seats = λ placed. s; late = l }

  goes : (waiting : Bool) → Seats call.brought.address full (gone_if waiting)
  goes true = tt
  goes false = tt

  refused : (spared waiting : Bool) → Seats call.brought.address full (if spared then same else gone_if waiting)
  refused true waiting = tt
  refused false waiting = goes waiting

  module _ (own : Option Peer) where
    first_sound : (algorithm : ℕ) (s : Step Passed) → steps call.brought call.cache call.body full ≡ s
        → Sound own (first_outcome call.brought call.key algorithm (waits own) s)
    first_sound algorithm (Err why) e = quiet (refused (terms_of why).spares (waits own)) refl
    first_sound algorithm (Ok passed) e =
        either_way (Sound own) (is_key_of passed.group call.key)
        (λ _. quiet (refl, (passes call.brought call.cache call.body full e).room) refl)
        (λ _. quiet tt refl)

    first : (algorithm : ℕ) → Sound own (first_frame call.brought call.cache call.key call.body algorithm full own)
    first algorithm =
        either_way (Sound own) (is_installed own) (λ _. quiet tt refl)
        (λ _. first_sound algorithm (steps call.brought call.cache call.body full) refl)

  module _ (p : Peer) where
    by_mic : (third : Option Part) → Sound (Some p) (third_mic call.brought.reading call.mic call.body p third)
    by_mic (Some part) =
        either_way (Sound (Some p)) (same_octets (content call.body part) call.mic) (λ _. record { seats = λ placed. placed; late = refl }) (λ _. quiet tt refl)
    by_mic None = quiet tt refl

    by_akm : (entry : Option Akm) → Sound (Some p) (third_akm call.brought.reading call.mic call.body p entry)
    by_akm (Some akm) = by_mic (third_of call.body akm.mic)
    by_akm None = quiet tt refl

  third : (status : ℕ) (own : Option Peer) → Sound own (third_frame call.brought.reading call.mic call.body status own)
  third status None = quiet tt refl
  third status (Some p) =
      either_way (Sound (Some p)) (not (is_waiting p.phase)) (λ _. quiet tt refl) λ _.
      either_way (Sound (Some p)) (not (eqb status 0)) (λ _. quiet tt refl) λ _.
      by_akm p (akm_of p.agreed.akm)

  pub sound : (own : Option Peer) → (opened : Option Header) → Sound own (on_body call opened full own)
  sound own (Some header) =
      either_way (Sound own) (not (eqb header.algorithm 7)) (λ _. quiet (goes (waits own)) refl) λ _.
      either_way (Sound own) (eqb header.transaction 1) (λ _. first own header.algorithm) λ _.
      either_way (Sound own) (eqb header.transaction 3) (λ _. third header.status own) λ _. quiet tt refl
  sound own None = quiet tt refl
