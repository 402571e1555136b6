use Rattle.std.proofs.Common.{sym}
use Rattle.frames.proofs.third.Laws.{third_lies}
use Rattle.closing.proofs.answer.Goals as goal

pub of-requires : goal.of-requires
of-requires c = third_lies c.args.body.now c.in-Some.akm.mic (sym c.in-Some-read.ensures)
