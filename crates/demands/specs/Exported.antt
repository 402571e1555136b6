-- Any two outcomes that the promise of an exported operation allows for one input are the same.
use Rattle.std.specs.Prelude.{ℕ, ◌≡◌, List}
use Rattle.peers.specs.Promises.{Nobody}
use Rattle.state.specs.State.{table_of}
use Rattle.host.specs.declared.HostCall.{HostCall}
use Rattle.unit.specs.declared.KeyPlace.{KeyPlace}
use Rattle.host.specs.declared.ReceiveResult.{ReceiveResult}
use Rattle.unit.specs.Promises.{ReceivesIn, LooksUpIn, RemovesIn, KeyAt, ZeroesMicIn, SetsMicIn}
use Rattle.demands.specs.Coincide.{Match}

-- States are compared by the tables that they are.
abbrev pub StatesMatch : List ℕ → List ℕ → Type 0
StatesMatch s u = Match (table_of s) (table_of u)

-- What an operation gives for a state, and for one that matches it, is the same.
abbrev pub CoincideIn : {Outcome : Type 0} → (List ℕ → Outcome → Type 0) → (Outcome → Outcome → Type 0) → Type 0
CoincideIn {Outcome} Allowed Same = (s u : List ℕ) → StatesMatch s u → (x y : Outcome) → Allowed s x → Allowed u y → Same x y

-- the state that a receive leaves, what it tells, and its reply buffer afterwards
pub record HostReception : Type 0 where
  pub state : List ℕ
  pub result : ReceiveResult
  pub buffer : List ℕ

pub record SameHostReception (x y : HostReception) : Type 0 where
  pub state : StatesMatch x.state y.state
  pub result : x.result ≡ y.result
  pub buffer : x.buffer ≡ y.buffer

-- the state that a removal leaves, and its answer
pub record HostRemoval : Type 0 where
  pub state : List ℕ
  pub answer : ℕ

pub record SameHostRemoval (x y : HostRemoval) : Type 0 where
  pub state : StatesMatch x.state y.state
  pub answer : x.answer ≡ y.answer

-- an answer, and the octets that were written: the record of a look_up, or the buffer of an operation on a MIC
pub record Written : Type 0 where
  pub answer : ℕ
  pub octets : List ℕ

pub record ExportedCoincide : Type 0 where
  pub empty : CoincideIn {Outcome = List ℕ} (λ s r. Nobody (table_of r)) StatesMatch
  pub receive : (call : HostCall) (cache key mic body before : List ℕ)
      → CoincideIn (λ s x. ReceivesIn s call cache key mic body before x.state x.result x.buffer) SameHostReception
  pub remove : (address : List ℕ) (reading : ℕ) → CoincideIn (λ s x. RemovesIn s address reading x.state x.answer) SameHostRemoval
  pub look_up : (address : List ℕ) (reading : ℕ) → CoincideIn {Outcome = Written} (λ s x. LooksUpIn s address reading x.answer x.octets) ◌≡◌
  pub show_key : (body : List ℕ) → CoincideIn {Outcome = KeyPlace} (λ s x. KeyAt body x) ◌≡◌
  pub zero_mic : (body before : List ℕ) → CoincideIn {Outcome = Written} (λ s x. ZeroesMicIn body before x.answer x.octets) ◌≡◌
  pub set_mic : (before mic : List ℕ) → CoincideIn {Outcome = Written} (λ s x. SetsMicIn before mic x.answer x.octets) ◌≡◌
