-- Any two outcomes that an operation's promise allows for one input are the same.
use Rattle.std.specs.Prelude.{◌≡◌, List, ℕ}
use Rattle.units.specs.declared.Tu.{Tu}
use Rattle.elements.specs.declared.Part.{Part}
use Rattle.chip.specs.declared.MicAnswer.{MicAnswer}
use Rattle.chip.specs.Chip.{ShowsKey, ZeroesMic, SetsMic}
use Rattle.peers.specs.declared.Table.{Table}
use Rattle.peers.specs.Alike.{Alike}
use Rattle.peers.specs.Promises.{Nobody}
use Rattle.rules.specs.OnePeer.{Call}
use Rattle.platform.specs.declared.LookedUp.{LookedUp}
use Rattle.platform.specs.declared.Received.{Received}
use Rattle.platform.specs.declared.Removed.{Removed}
use Rattle.platform.specs.Promises.{Receives, Removes, LooksUp}

-- Tables are compared by their latest reading and by what they show at every reading from it on.
abbrev pub Match : Table → Table → Type 0
Match t u = Alike t.latest t u

-- What an operation gives for a table, and for one that matches it, is the same. A table matches itself.
abbrev pub Coincide : {Outcome : Type 0} → (Table → Outcome → Type 0) → (Outcome → Outcome → Type 0) → Type 0
Coincide {Outcome} Allowed Same = (t u : Table) → Match t u → (x y : Outcome) → Allowed t x → Allowed u y → Same x y

-- a receive's outcome, and its reply buffer afterwards
pub record Reception : Type 0 where
  pub received : Received
  pub buffer : List ℕ

pub record SameReception (x y : Reception) : Type 0 where
  pub answer : x.received.answer ≡ y.received.answer
  pub length : x.received.length ≡ y.received.length
  pub buffer : x.buffer ≡ y.buffer
  pub table : Match x.received.table y.received.table

pub record SameRemoval (x y : Removed) : Type 0 where
  pub answer : x.answer ≡ y.answer
  pub table : Match x.table y.table

-- the answer of an operation on a MIC, and its buffer afterwards
pub record MicOutcome : Type 0 where
  pub answer : MicAnswer
  pub buffer : List ℕ

pub record OutcomesCoincide : Type 0 where
  pub empty : Coincide (λ t r. Nobody r) Match
  pub receive : (call : Call) → Coincide (λ t x. Receives t call x.buffer x.received) SameReception
  pub remove : (address : List ℕ) (reading : Tu) → Coincide (λ t r. Removes t address reading r) SameRemoval
  pub look_up : (address : List ℕ) (reading : Tu) → Coincide {Outcome = LookedUp} (λ t r. LooksUp t address reading r) ◌≡◌
  pub show_key : (body : List ℕ) → Coincide {Outcome = Part} (λ t key. ShowsKey body key) ◌≡◌
  pub zero_mic : (body before : List ℕ) → Coincide {Outcome = MicOutcome} (λ t x. ZeroesMic body before x.answer x.buffer) ◌≡◌
  pub set_mic : (before mic : List ℕ) → Coincide {Outcome = MicOutcome} (λ t x. SetsMic before mic x.answer x.buffer) ◌≡◌
