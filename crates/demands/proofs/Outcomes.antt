-- What a receive can leave of a record: the same; none, of a waiting one; a waiting one; or that one, installed.
use mathlib.Core.Path.{◌≡◌, refl, sym, ap, ◌∙◌}
use mathlib.Core.Bool.{Bool, true, false, not}
use Rattle.std.specs.Prelude.{Option, None, Some, Ok, Err, if◌then◌else◌}
use Prim.Native.Nat.{ℕ}
use native.Mathlib.Omega.{arith}
use borrow.Author.Tests.{not-false}
use lib.Dec.{eqb}
use lib.ListN.{length}
use Rattle.octets.specs.Equality.{same_octets}
use Rattle.octets.proofs.Choice.{either_way}
use Rattle.units.specs.declared.Tu.{Tu}
use Rattle.elements.specs.declared.Part.{Part}
use Rattle.elements.specs.Body.{body_of}
use Rattle.suites.specs.Tables.{akm_of, is_key_of}
use Rattle.elements.specs.Lies.{content}
use Rattle.frames.specs.Third.{third_of}
use Rattle.peers.specs.declared.Peer.{Peer}
use Rattle.rules.specs.declared.Answer.{Answer}
use Rattle.rules.specs.declared.Passed.{Passed}
use Rattle.suites.specs.declared.Akm.{Akm}
use Rattle.elements.specs.declared.Header.{Header}
use Rattle.rules.specs.OnePeer.{Call, same, gone, becomes, Outcome, answer_number, gone_if, is_waiting, is_installed, waits, terms_of, Step, steps, waiting_peer, first_outcome, first_frame, installed_peer, third_mic, third_akm, third_frame, is_group_address, ◌or_else◌, checks, on_body, receive_of}
use Rattle.rules.proofs.Checks.{checks_pass}

pub data Kind (call : Call) (own : Option Peer) (o : Outcome) : Type 0 where
  keeps : o.leaves ≡ same → Kind call own o
  ends : is_installed own ≡ false → o.leaves ≡ gone → Kind call own o
  begins : (passed : Passed) → is_installed own ≡ false → is_group_address call.brought.address ≡ false → o.answer ≡ Answer.Accepted
      → o.leaves ≡ becomes (waiting_peer call.brought passed) → Kind call own o
  installs : (p : Peer) → own ≡ Some p → is_waiting p.phase ≡ true → o.answer ≡ Answer.Installed
      → o.leaves ≡ becomes (installed_peer call.brought.reading p) → Kind call own o

-- who waits is not installed
not_installed : (own : Option Peer) → waits own ≡ true → is_installed own ≡ false
not_installed None w = refl
not_installed (Some p) w = rw w

module _ (call : Call) where
  -- where a waiting record goes
  goes : (own : Option Peer) {o : Outcome} → o.leaves ≡ gone_if (waits own) → Kind call own o
  goes own {o} e = go (waits own) refl e
    where
      go : (b : Bool) → waits own ≡ b → o.leaves ≡ gone_if b → Kind call own o
      go true w e = ends (not_installed own w) e
      go false w e = keeps e

  module _ (g : is_group_address call.brought.address ≡ false) (full : Bool) (algorithm : ℕ) (own : Option Peer) where
    first_steps : is_installed own ≡ false → (s : Step Passed) → Kind call own (first_outcome call.brought call.key algorithm (waits own) s)
    first_steps i (Err why) = go (terms_of why).spares refl
      where
        go : (b : Bool) {o : Outcome} → o.leaves ≡ (if b then same else gone_if (waits own)) → Kind call own o
        go true e = keeps e
        go false e = goes own e
    first_steps i (Ok passed) = either_way (Kind call own) (is_key_of passed.group call.key) (λ _. begins passed i g refl refl) (λ _. keeps refl)

    first_kind : Kind call own (first_frame call.brought call.cache call.key call.body algorithm full own)
    first_kind = either_way (Kind call own) (is_installed own) (λ _. keeps refl) (λ i. first_steps i (steps call.brought call.cache call.body full))

  module _ (p : Peer) (w : is_waiting p.phase ≡ true) where
    kind_of_mic : (third : Option Part) → Kind call (Some p) (third_mic call.brought.reading call.mic call.body p third)
    kind_of_mic (Some part) =
        either_way (Kind call (Some p)) (same_octets (content call.body part) call.mic) (λ _. installs p refl w refl refl) (λ _. ends (not_installed (Some p) w) refl)
    kind_of_mic None = ends (not_installed (Some p) w) refl

    kind_of_akm : (entry : Option Akm) → Kind call (Some p) (third_akm call.brought.reading call.mic call.body p entry)
    kind_of_akm (Some akm) = kind_of_mic (third_of call.body akm.mic)
    kind_of_akm None = ends (not_installed (Some p) w) refl

  third_kind : (status : ℕ) (own : Option Peer) → Kind call own (third_frame call.brought.reading call.mic call.body status own)
  third_kind status None = keeps refl
  third_kind status (Some p) =
      either_way (Kind call (Some p)) (not (is_waiting p.phase)) (λ _. keeps refl) λ i.
      let w = not-false (is_waiting p.phase) i in
      either_way (Kind call (Some p)) (not (eqb status 0)) (λ _. ends (not_installed (Some p) w) refl) λ _.
      kind_of_akm p w (akm_of p.agreed.akm)

  body_kind : is_group_address call.brought.address ≡ false → (opened : Option Header) (full : Bool) (own : Option Peer) → Kind call own (on_body call opened full own)
  body_kind g (Some header) full own =
      either_way (Kind call own) (not (eqb header.algorithm 7)) (λ _. goes own refl) λ _.
      either_way (Kind call own) (eqb header.transaction 1) (λ _. first_kind g full header.algorithm own) λ _.
      either_way (Kind call own) (eqb header.transaction 3) (λ _. third_kind header.status own) λ _. keeps refl
  body_kind g None full own = keeps refl

  pub kind_of : (latest : Tu) (full : Bool) (own : Option Peer) → Kind call own (receive_of latest full own call)
  unfolding receive_of
  kind_of latest full own = go (checks latest call.brought call.cache (length call.buffer)) refl
    where
      go : (c : Option Answer) → checks latest call.brought call.cache (length call.buffer) ≡ c
          → Kind call own (c or_else on_body call (body_of call.body) full own)
      go (Some answer) e = keeps refl
      go None e = body_kind (checks_pass latest call.brought call.cache (length call.buffer) e).address (body_of call.body) full own

-- A record is made in two ways, each with its number.
pub data Made (call : Call) (own : Option Peer) (number : ℕ) (p : Peer) : Type 0 where
  begun : (passed : Passed) → is_group_address call.brought.address ≡ false → number ≡ 0 → p ≡ waiting_peer call.brought passed → Made call own number p
  installed : (x : Peer) → own ≡ Some x → number ≡ 15 → p ≡ installed_peer call.brought.reading x → Made call own number p

pub made_of : {call : Call} {own : Option Peer} {o : Outcome} {number : ℕ} {p : Peer} → Kind call own o → answer_number o.answer ≡ number → o.leaves ≡ becomes p
    → Made call own number p
made_of (keeps e) i l = absurd (let z : ◌≡◌ {A = ℕ} 0 1 = cc in omega arith)
made_of (ends h e) i l = absurd (let z : ◌≡◌ {A = ℕ} 0 1 = cc in omega arith)
made_of (begins passed h g a e) i l = begun passed g (sym i ∙ ap answer_number a) cc
made_of (installs x q w a e) i l = installed x q (sym i ∙ ap answer_number a) cc
