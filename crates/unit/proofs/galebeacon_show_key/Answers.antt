use Rattle.std.proofs.Common.{arith}
use Rattle.chip.proofs.Laws.{key_part_lies}
use Rattle.unit.proofs.Keys.{key_at}
use Rattle.unit.proofs.galebeacon_show_key.Goals as goal

pub overflow_sub-result : goal.overflow_sub-result
overflow_sub-result c = rw c.show_key-key.ensures (omega (arith, key_part_lies c.args.body.now))

pub returns : goal.returns
returns c = rw c.show_key-key.ensures (key_at c.args.body.now)
