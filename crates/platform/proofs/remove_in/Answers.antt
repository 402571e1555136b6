use Rattle.std.proofs.Common.{ap, ◌∙◌}
use mathlib.Core.Bool.{false≢true}
use Rattle.peers.specs.Promises.{shown_at}
use Rattle.platform.proofs.Asking.{nowhere, removes_barred, removes_none, removes_some}
use Rattle.platform.proofs.remove_in.Goals as goal

pub returns-in-Err-clause-removed : goal.returns-in-Err-clause-removed
returns-in-Err-clause-removed g c = rw c.from.ensures (removes_barred _ _ _ c.in-Err.barred (cc))

pub returns-in_default-found : goal.returns-in_default-found
returns-in_default-found g c =
    let nobody = c.find-found.ensures.shown ∙ nowhere (g.S.Places.table c.args.s.now) _ c.in_default-found.not-At in
    record {
      removed = rw c.date.ensures.dated (removes_none _ _ _ {u = c.in_default.field-0} (cc) nobody);
      early = λ h. absurd (false≢true h);
    }

pub returns-clause-removed : goal.returns-clause-removed
returns-clause-removed g c =
    let shown = c.find-found.ensures.shown ∙ ap (shown_at (g.S.Places.table c.args.s.now)) c.in-At.is in
    removes_some _ _ _ {u = c.in_default.field-0} (cc) shown (rw c.date.ensures.dated at c.drop.ensures)
