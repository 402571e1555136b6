use Rattle.std.proofs.Common.{rules, tests, ◌∙◌, eqb}
use Rattle.std.proofs.lemmas.Iterator.{YieldsList-from_slice}
use Rattle.std.proofs.lemmas.Iterator.Search.{find_from_yields_List}
use Rattle.suites.specs.Tables.{ciphers, cipher_of}
use Rattle.suites.proofs.cipher_of.Goals as goal

pub returns : goal.returns
unfolding cipher_of
returns c = c.copied.ensures ∙ find_from_yields_List (λ e. eqb e.kind c.args.kind) _ _ _ c.find.ensures.ran (YieldsList-from_slice ciphers cc) (λ x b q k. search (rules, tests))
