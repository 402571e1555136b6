use Rattle.std.proofs.Common.{sym, ap, ◌∙◌}
use Rattle.std.specs.Result.{result_ok}
use Rattle.frames.proofs.first.Laws.{first_lies}
use Rattle.opening.proofs.decide.Goals as goal

pub of-requires : goal.of-requires
of-requires c =
    let lies = first_lies c.args.call.body.now (sym c.read.ensures ∙ c.ok_or.ensures.ok_part ∙ ap result_ok c.in_ok-facts.was) in
    lies.key

pub of-pmkids-requires : goal.of-pmkids-requires
of-pmkids-requires c =
    let lies = first_lies c.args.call.body.now (sym c.read.ensures ∙ c.ok_or.ensures.ok_part ∙ ap result_ok c.in_ok-facts.was) in
    lies.pmkids
