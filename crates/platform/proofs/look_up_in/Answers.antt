use Rattle.platform.proofs.Asking.{looks_barred, looks_none, looks_some}
use Rattle.platform.proofs.look_up_in.Goals as goal

pub returns-in-Err : goal.returns-in-Err
returns-in-Err g c = rw (c.from.ensures, c.vacant.ensures) (looks_barred _ _ _ c.in-Err.barred (cc))

pub returns-in-Some : goal.returns-in-Some
returns-in-Some g c = looks_some _ _ _ {u = c.in_default.field-0} (cc) (cc)

pub returns-in-None : goal.returns-in-None
returns-in-None g c = rw c.vacant-in-None.ensures (looks_none _ _ _ {u = c.in_default.field-0} (cc) (cc))
