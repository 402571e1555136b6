-- A receive, by its checks, by what the search found of its peer, and by what its body gets.
use Rattle.std.proofs.Common.{◌≡◌, Bool, false, List, ℕ, length, refl, sym, ap, subst, ◌∙◌}
use Rattle.std.specs.Prelude.{Option, None, Some}
use Rattle.octets.proofs.Parts.{wrote_none}
use Rattle.units.specs.declared.Tu.{Tu}
use Rattle.elements.specs.Body.{body_of}
use Rattle.peers.specs.declared.Found.{Found}
use Rattle.peers.specs.declared.Peer.{Peer}
use Rattle.peers.specs.declared.Table.{Table}
use Rattle.peers.specs.Promises.{shown_at, is_full, Finds}
use Rattle.peers.specs.View.{shows, full, dated}
use Rattle.peers.proofs.Laws.{shown_is, full_shown}
use Rattle.rules.specs.declared.Answer.{Answer}
use Rattle.rules.specs.declared.Leaves.{Leaves}
use Rattle.rules.specs.declared.Verdict.{Verdict}
use Rattle.rules.specs.OnePeer.{Call, answer_number, is_early, Outcome, unchanged, checks, on_body, receive_of}
use Rattle.rules.specs.Told.{Gets}
use Rattle.rules.proofs.Checks.{checks_early}
use Rattle.calls.specs.Seen.{BodyGets}
use Rattle.platform.specs.Inside.{Settled}
use Rattle.platform.specs.Promises.{Answers, ruled, Receives}
use Rattle.platform.proofs.Settling.{dates_early, dates_late, settles_none, settles_left, settled_latest}
use Rattle.platform.proofs.Sound.{Placed, Sound, sound}

module _ (t : Table) (call : Call) where
  abbrev reading : Tu
  reading = call.brought.reading

  abbrev address : List ℕ
  address = call.brought.address

  abbrev own : Option Peer
  own = shows t reading address

  abbrev checked : Option Answer
  checked = checks t.latest call.brought call.cache (length call.buffer)

  -- a check fails
  pub received_early : {answer : Answer} → checked ≡ Some answer → Receives t call call.buffer (record { table = t; answer = answer; length = 0 })
  unfolding receive_of
  received_early {answer} e =
      let o : ruled t call ≡ unchanged answer = rw e in
      subst (λ (o : Outcome). Answers t call o call.buffer (record { table = t; answer = answer; length = 0 })) (sym o)
      (record {
        number = refl;
        answer = refl;
        reply = wrote_none call.buffer;
        dates = dates_early t reading (checks_early t.latest call.brought call.cache (length call.buffer) e);
        settles = settles_none t address reading;
      })

  -- all checks pass
  module _ (passed : checked ≡ None) where
    abbrev outcome : Outcome
    outcome = on_body call (body_of call.body) (full t reading address) own

    body_rules : ruled t call ≡ outcome
    unfolding receive_of
    body_rules = rw passed

    placed : (o : Option Peer) → own ≡ o → Placed call (full t reading address) o
    placed None e = tt
    placed (Some p) e = ((shown_is t reading address e).address, full_shown t reading address e)

    by_rules : Sound call (full t reading address) own outcome
    by_rules = sound call (full t reading address) own (body_of call.body)

    -- the body got what the rules say of the receive that was checked, by what the search found
    module _ {found : Found} (f : Finds t address reading found) {that : Call} (same : that ≡ call) {room : Bool} (r : room ≡ is_full found)
        {peer : Option Peer} (p : peer ≡ shown_at t found) {after : List ℕ} {v : Verdict} (body : BodyGets that room peer after v) where
      gets : Gets outcome call.buffer after v
      gets = rw (f.shown ∙ sym p, f.filled ∙ sym r) (subst (λ (k : Call). BodyGets k room peer after v) same body)

      pub late : is_early (answer_number v.answer) ≡ false
      late = ap (λ (a : Answer). is_early (answer_number a)) gets.answer ∙ by_rules.late

      pub received : {r : Table} → Settled v.leaves address (dated t reading) r → Receives t call after (record { table = r; answer = v.answer; length = v.length })
      received {r} s =
          subst (λ (o : Outcome). Answers t call o after (record { table = r; answer = v.answer; length = v.length })) (sym body_rules)
          (record {
            number = ap answer_number gets.answer;
            answer = gets.answer;
            reply = gets.wrote;
            dates = dates_late t by_rules.late (settled_latest (dated t reading) address r v.leaves s);
            settles = settles_left t address reading outcome.leaves (by_rules.seats (placed own refl))
                (subst (λ (leaves : Leaves). Settled leaves address (dated t reading) r) gets.leaves s);
          })
