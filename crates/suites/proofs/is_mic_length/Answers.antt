use Rattle.std.proofs.Common.{rules, tests, eqb}
use Rattle.std.proofs.lemmas.Iterator.{YieldsList-from_slice}
use Rattle.std.proofs.lemmas.Iterator.Search.{any_from_yields_List}
use Rattle.suites.specs.Tables.{akms, is_mic_length}
use Rattle.suites.proofs.is_mic_length.Goals as goal

pub returns : goal.returns
unfolding is_mic_length
returns c = any_from_yields_List (λ e. eqb e.mic c.args.n) _ _ _ c.any.ensures.ran (YieldsList-from_slice akms cc) (λ x b q k. search (rules, tests))
