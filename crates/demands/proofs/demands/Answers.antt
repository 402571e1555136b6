use Rattle.demands.proofs.Isolated.{isolation, never_full}
use Rattle.demands.proofs.Keys.{installed_key}
use Rattle.demands.proofs.EdgesHold.{edges_hold}
use Rattle.demands.proofs.CoincideLaws.{outcomes_coincide}
use Rattle.demands.proofs.ExportedLaws.{exported_coincide}
use Rattle.demands.proofs.ReadsBackExact.{acceptance_is_exact}
use Rattle.demands.proofs.ReadsBackReply.{a_reply_reads_back}
use Rattle.demands.proofs.Keeping.{can_be_served}
use Rattle.demands.proofs.ShutsOutInputs.{shuts_out}
use Rattle.demands.proofs.demands.Goals as goal

pub returns : goal.returns
returns c = record {
  isolation = isolation;
  never_full = never_full;
  can_be_served = can_be_served;
  installed_key = installed_key;
  edges_hold = edges_hold;
  outcomes_coincide = outcomes_coincide;
  exported_coincide = exported_coincide;
  acceptance_is_exact = acceptance_is_exact;
  a_reply_reads_back = a_reply_reads_back;
  shuts_out = shuts_out;
}
