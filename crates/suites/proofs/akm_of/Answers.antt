use Rattle.std.proofs.Common.{rules, tests, ◌∙◌, eqb}
use Rattle.std.proofs.lemmas.Iterator.{YieldsList-from_slice}
use Rattle.std.proofs.lemmas.Iterator.Search.{find_from_yields_List}
use Rattle.suites.specs.Tables.{akms, akm_of}
use Rattle.suites.proofs.akm_of.Goals as goal

pub returns : goal.returns
unfolding akm_of
returns c = c.copied.ensures ∙ find_from_yields_List (λ e. eqb e.kind c.args.kind) _ _ _ c.find.ensures.ran (YieldsList-from_slice akms cc) (λ x b q k. search (rules, tests))
