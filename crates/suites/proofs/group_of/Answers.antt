use Rattle.std.proofs.Common.{rules, tests, ◌∙◌, eqb}
use Rattle.std.proofs.lemmas.Iterator.{YieldsList-from_slice}
use Rattle.std.proofs.lemmas.Iterator.Search.{find_from_yields_List}
use Rattle.suites.specs.Tables.{groups, group_of}
use Rattle.suites.proofs.group_of.Goals as goal

pub returns : goal.returns
unfolding group_of
returns c = c.copied.ensures ∙ find_from_yields_List (λ e. eqb e.number c.args.number) _ _ _ c.find.ensures.ran (YieldsList-from_slice groups cc) (λ x b q k. search (rules, tests))
