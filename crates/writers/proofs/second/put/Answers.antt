use Rattle.octets.proofs.Parts.{wrote_more}
use Rattle.writers.specs.Second.{second_octets}
use Rattle.writers.proofs.second.put.Goals as goal

pub returns : goal.returns
unfolding second_octets
returns c = wrote_more (wrote_more (wrote_more (wrote_more c.put-a.ensures c.put.ensures) c.put-2.ensures) c.put-3.ensures) c.put-4.ensures
