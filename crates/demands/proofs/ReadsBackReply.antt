-- A reply reads back.
use mathlib.Core.Path.{◌≡◌, ap, ◌∙◌}
use mathlib.Core.Bool.{true}
use mathlib.Core.List.{List}
use Prim.Native.Nat.{ℕ}
use native.Mathlib.Omega.{arith}
use lib.ListN.{length, take}
use Rattle.octets.proofs.Parts.{wrote_stands}
use Rattle.writers.specs.Header.{header_octets}
use Rattle.writers.specs.Second.{second_octets}
use Rattle.writers.proofs.header.Laws.{length_header, refusal_reads_back}
use Rattle.writers.proofs.second.ReadBack.{Readable, second_reads_back}
use Rattle.peers.specs.declared.Table.{Table}
use Rattle.peers.specs.View.{full}
use Rattle.rules.specs.declared.Refusal.{Refusal}
use Rattle.rules.specs.OnePeer.{Call, Outcome, terms_of, chosen_of, listed}
use Rattle.rules.proofs.Checks.{checks_pass}
use Rattle.rules.proofs.Inversion.{passes, status_small}
use Rattle.opening.proofs.Accepting.{fitting}
use Rattle.platform.specs.Promises.{ruled}
use Rattle.demands.specs.ReadsBack.{AcceptsFirst, RefusesFirst, SecondFrame, SixOctets, AReplyReadsBack}
use Rattle.demands.proofs.ReadsBackExact.{acceptance_is_exact, ruled_accepted, ruled_refused}
use Rattle.demands.proofs.ReadsBackSteps.{chose}

module _ (t : Table) (call : Call) where
  second_frame : AcceptsFirst true t call → (reply : List ℕ) → reply ≡ (ruled t call).reply → SecondFrame t call reply
  second_frame a reply e =
      let fit = (checks_pass t.latest call.brought call.cache (length call.buffer) a.frame.checked).settings in
      let v = passes call.brought call.cache call.body (full t call.brought.reading call.brought.address) a.passes in
      let c = chose fit v in
      let f = fitting v in
      let long = f.keys call.key a.key in
      let short = f.mic in
      let written : (ruled t call).reply ≡ second_octets (chosen_of 7 a.passed) (listed a.passed) call.key =
      ap (λ (o : Outcome). o.reply) (ruled_accepted t call a) ∙ rw a.key in
      let readable : Readable (chosen_of 7 a.passed) (listed a.passed) call.key c.pmkids = record {
        algorithm = omega arith;
        group = c.group_fits;
        asked = c.asked;
        lifetime = c.lifetime_fits;
        mic = omega arith;
        whole_pmkids = c.whole_pmkids;
        pmkids_fit = omega (arith, c.whole_pmkids, c.one_pmkid);
        key_fits = omega arith;
      } in
      record {
        first = v.facts;
        read = v.read;
        passed = a.passed;
        passes = a.passes;
        reads = rw (e ∙ written, c.cipher, c.akm, ← c.group, ← c.lifetime)
            (second_reads_back (chosen_of 7 a.passed) (listed a.passed) call.key c.pmkids readable);
      }

  six_octets : {why : Refusal} → RefusesFirst why t call → (reply : List ℕ) → reply ≡ (ruled t call).reply → SixOctets (terms_of why).status reply
  six_octets {why} a reply e =
      let written : reply ≡ header_octets 7 2 (terms_of why).status = e ∙ ap (λ (o : Outcome). o.reply) (ruled_refused t call a) in
      record { six = rw written (length_header 7 2 (terms_of why).status); reads = rw written (refusal_reads_back 7 2 (terms_of why).status (omega arith) (omega arith) (status_small why)) }

pub a_reply_reads_back : AReplyReadsBack
a_reply_reads_back t call after r w =
    let exact = acceptance_is_exact t call after r w in
    record {
      accepted = λ e. second_frame t call (exact.accepted.0 e) (take r.length after) (wrote_stands w.reply);
      refused = λ why e. six_octets t call ((exact.refused why).0 e) (take r.length after) (wrote_stands w.reply);
    }
