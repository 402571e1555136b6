use Rattle.std.proofs.Common.{rules, sym, ap, ◌∙◌}
use borrow.Author.Tests.{eqb-false, not-true}
use Rattle.units.specs.declared.Tu.{Tu}
use Rattle.state.specs.State.{table_of}
use Rattle.state.proofs.Stores.{redates_new}
use Rattle.state.proofs.StatePlaces.date.Goals as goal

pub returns-then-ne-clause-dated : goal.returns-then-ne-clause-dated
unfolding table_of
returns-then-ne-clause-dated c =
    let another = eqb-false _ _ (not-true _ (sym c.ne.ensures ∙ c.if-ne.true)) in
    (redates_new _ (search rules) (ap (λ (t : Tu). t.0) c.latest.ensures) _ another (search rules) c.put_le.ensures).table
