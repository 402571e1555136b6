-- The outcomes of the exported operations coincide, by those of the platform.
use Prim.Native.Nat.{ℕ}
use mathlib.Core.Path.{◌≡◌, sym, ap, ap₂, ◌∙◌}
use mathlib.Core.List.{List}
use native.Mathlib.Omega.{arith}
use Rattle.chip.specs.declared.MicAnswer.{MicAnswer}
use Rattle.chip.specs.Chip.{mic_number}
use Rattle.rules.specs.Told.{call_of}
use Rattle.platform.specs.declared.LookedUp.{LookedUp}
use Rattle.rules.specs.OnePeer.{removal_number, look_number}
use Rattle.records.specs.Record.{octets_of}
use Rattle.state.specs.State.{table_of}
use Rattle.host.specs.declared.HostCall.{HostCall}
use Rattle.unit.specs.declared.KeyPlace.{KeyPlace}
use Rattle.host.specs.declared.ReceiveResult.{ReceiveResult}
use Rattle.host.specs.Host.{brought_of, receive_result_of}
use Rattle.unit.specs.Promises.{ReceivesIn, RemovesIn, LooksUpIn, KeyAt}
use Rattle.demands.specs.Exported.{StatesMatch, HostReception, SameHostReception, HostRemoval, SameHostRemoval, Written, ExportedCoincide}
use Rattle.demands.proofs.CoincideLaws.{outcomes_coincide}

abbrev told : ℕ → List ℕ → Written
told answer octets = record { answer = answer; octets = octets }

-- what a receive tells, by its answer and its length
result_of : {s cache key mic body before s' after : List ℕ} {call : HostCall} {r : ReceiveResult} (a : ReceivesIn s call cache key mic body before s' r after)
    → r ≡ receive_result_of a.answer r.length
result_of {r} a = ap₂ (λ (answer status : ℕ). record { answer = answer; status = status; length = r.length }) a.number a.status

module _ {s u : List ℕ} (w : StatesMatch s u) where
  received_same : (call : HostCall) (cache key mic body before : List ℕ) (x y : HostReception) → ReceivesIn s call cache key mic body before x.state x.result x.buffer
      → ReceivesIn u call cache key mic body before y.state y.result y.buffer → SameHostReception x y
  received_same call cache key mic body before x y a b =
      let same = outcomes_coincide.receive (call_of (brought_of call) cache key mic body before) (table_of s) (table_of u) w
      (record { received = record { table = table_of x.state; answer = a.answer; length = x.result.length }; buffer = x.buffer })
      (record { received = record { table = table_of y.state; answer = b.answer; length = y.result.length }; buffer = y.buffer }) a.received b.received in
      record {
        state = same.table;
        result = result_of a ∙ ap₂ receive_result_of same.answer same.length ∙ sym (result_of b);
        buffer = same.buffer;
      }

  removed_same : (address : List ℕ) (reading : ℕ) (x y : HostRemoval) → RemovesIn s address reading x.state x.answer → RemovesIn u address reading y.state y.answer
      → SameHostRemoval x y
  removed_same address reading x y a b =
      let same = outcomes_coincide.remove address (record { 0 = reading }) (table_of s) (table_of u) w
      (record { table = table_of x.state; answer = a.removal }) (record { table = table_of y.state; answer = b.removal }) a.removed b.removed in
      record { state = same.table; answer = a.number ∙ ap removal_number same.answer ∙ sym b.number }

  looked_same : (address : List ℕ) (reading : ℕ) (x y : Written) → LooksUpIn s address reading x.answer x.octets → LooksUpIn u address reading y.answer y.octets → x ≡ y
  looked_same address reading x y a b =
      let same = outcomes_coincide.look_up address (record { 0 = reading }) (table_of s) (table_of u) w a.outcome b.outcome a.looked b.looked in
      ap₂ told (a.number ∙ ap (λ (r : LookedUp). look_number r.answer) same ∙ sym b.number)
      (a.told ∙ ap (λ (r : LookedUp). octets_of r.peer) same ∙ sym b.told)

key_same : (body : List ℕ) (x y : KeyPlace) → KeyAt body x → KeyAt body y → x ≡ y
key_same body x y a b =
    let start = a.start ∙ sym b.start in
    let end = a.end ∙ sym b.end in
    ap₂ (λ (s l : ℕ). record { start = s; length = l }) start (omega (arith, start, end))

mic_same : (a b : MicAnswer) {x y : Written} → x.answer ≡ mic_number a → y.answer ≡ mic_number b → mic_number a ≡ mic_number b → x.octets ≡ y.octets → x ≡ y
mic_same a b p q n e = ap₂ told (p ∙ n ∙ sym q) e

pub exported_coincide : ExportedCoincide
exported_coincide = record {
  empty = λ s u w r q x y. outcomes_coincide.empty (table_of s) (table_of u) w (table_of r) (table_of q) x y;
  receive = λ call cache key mic body before s u w. received_same w call cache key mic body before;
  remove = λ address reading s u w. removed_same w address reading;
  look_up = λ address reading s u w. looked_same w address reading;
  show_key = λ body s u w. key_same body;
  zero_mic = λ body before s u w x y a b. mic_same a.answer b.answer a.told b.told (a.zeroes.number ∙ sym b.zeroes.number) (a.zeroes.octets ∙ sym b.zeroes.octets);
  set_mic = λ before mic s u w x y a b. mic_same a.answer b.answer a.told b.told (a.sets.number ∙ sym b.sets.number) (a.sets.octets ∙ sym b.sets.octets);
}
