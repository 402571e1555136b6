use Rattle.std.proofs.Common.{sym, subst, length}
use Rattle.elements.specs.Lies.{Lies}
use Rattle.chip.proofs.Laws.{key_part_lies}
use Rattle.replay.proofs.call_records.show_key.Goals as goal

pub of-requires : goal.of-requires
of-requires g c = subst (Lies 0 (length c.args.body.now)) (sym c.show_key.ensures) (key_part_lies c.args.body.now)
