use Rattle.std.proofs.Common.{sym, ◌∙◌, arith}
use Rattle.peers.proofs.Filling.{filling_keeps, filling_stores, filling_ends}
use Rattle.peers.proofs.Promised.{puts}
use Rattle.peers.proofs.put.Goals as goal
use Rattle.peers.proofs.put.Goals.{then-not-is_other+then-placed, then-not-is_other+else-placed, else-not-is_other}

pub loop-i-preserved : goal.loop-i-preserved
loop-i-preserved g c =
    let filling = c.loop-i.invariant in
    let stands = sym c.is_other.ensures in
    elim c.if-not-is_other.branch [
      | then-not-is_other+then-placed w ↦
          rw (w.s-is, w.placed-is, w.clear.ensures, w.if-placed.true)
          (filling_stores _ (rw w.if-placed.true at filling) (omega arith) (stands ∙ w.if-not-is_other.true))
      | then-not-is_other+else-placed w ↦
          rw (w.s-is, w.placed-is, w.store.ensures)
          (filling_stores _ (rw w.if-placed.false at filling) (omega arith) (stands ∙ w.if-not-is_other.true))
      | else-not-is_other w ↦
          rw (w.s-is, w.placed-is) (filling_keeps _ filling (omega arith) (stands ∙ w.if-not-is_other.false))
    ]

pub returns : goal.returns
returns g c =
    puts _ (c.count-i-end.ensures.of_table ∙ c.count-i-end.ensures.sixteen) _ _
    (rw c.latest-reading.ensures at (filling_ends _ c.loop-i.invariant (omega arith))) c.loop-i.invariant.latest
