use Rattle.std.proofs.Common.{not, sym, ap, ◌∙◌, arith}
use Rattle.peers.proofs.Filling.{filling_keeps, filling_stores, filling_ends}
use Rattle.peers.proofs.Promised.{drops}
use Rattle.peers.proofs.drop.Goals as goal
use Rattle.peers.proofs.drop.Goals.{then-is_of, else-is_of}

pub loop-place-preserved : goal.loop-place-preserved
loop-place-preserved g c =
    let stands = sym c.is_of.ensures in
    elim c.if-is_of.branch [
      | then-is_of w ↦ rw (w.s-is, w.clear.ensures) (filling_stores _ c.loop-place.invariant (omega arith) (ap not (stands ∙ w.if-is_of.true)))
      | else-is_of w ↦ rw w.s-is (filling_keeps _ c.loop-place.invariant (omega arith) (ap not (stands ∙ w.if-is_of.false)))
    ]

pub returns : goal.returns
returns g c = drops _ _ _ (filling_ends _ c.loop-place.invariant (omega arith)) c.loop-place.invariant.latest
