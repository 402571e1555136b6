use Rattle.std.proofs.Common.{sym}
use Rattle.opening.proofs.Accepting.{reply_fits}
use Rattle.opening.proofs.answer.Goals as goal

pub accept-requires : goal.accept-requires
accept-requires c =
    let a = c.args in
    reply_fits a.call.brought a.call.cache.octets.now a.call.body.now a.call.key.now a.full _ (sym c.in-Ok.ensures) c.requires
