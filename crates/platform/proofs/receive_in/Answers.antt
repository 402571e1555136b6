use Rattle.rules.proofs.Checks.{checks_pass}
use Rattle.rules.specs.Told.{incoming}
use Rattle.platform.proofs.Receiving.{received_early, received}
use Rattle.platform.proofs.receive_in.Goals as goal

pub returns-in-Err-clause-received : goal.returns-in-Err-clause-received
returns-in-Err-clause-received g c = received_early _ _ (rw c.latest.ensures at c.in-Err.ensures)

pub on_body-verdict-requires : goal.on_body-verdict-requires
on_body-verdict-requires g c = (checks_pass _ _ _ _ c.in-Ok.ensures.0).buffer

pub returns-clause-received : goal.returns-clause-received
returns-clause-received g c =
    let passed = c.in-Ok.ensures in
    received (g.S.Places.table c.args.s.now) (incoming c.args.call c.args.reply.now) (rw c.latest.ensures at passed.0) c.find-found.ensures
    (passed.1 c.args.reply.now) c.is_full.ensures c.shown.ensures c.on_body-verdict.ensures (rw c.date.ensures.dated at c.settle.ensures)
