use Rattle.std.proofs.Common.{sym, ◌∙◌}
use Rattle.frames.proofs.first.Laws.{first_lies}
use Rattle.chip.proofs.key_in.Goals as goal

pub of-requires : goal.of-requires
of-requires c = (first_lies c.args.body.now (sym c.read.ensures ∙ c.in_ok-facts.was)).key
