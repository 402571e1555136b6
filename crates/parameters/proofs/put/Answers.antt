use native.Mathlib.Omega.{arith}
use Prim.Native.Nat.{◌≤◌}
use lib.ListN.{length, take}
use lib.Seq.{length-take-le}
use mathlib.Core.Path.{◌∙◌}
use Rattle.octets.proofs.Parts.{wrote_front, wrote_more}
use Rattle.parameters.specs.Parameters.{side_of, said_by}
use Rattle.parameters.proofs.Laws.{control_by, length_parameters, wrote_parameters}
use Rattle.parameters.proofs.put.Goals as goal

pub returns : goal.returns
returns c =
    let w = c.args.written in
    let five : 5 ≤ length c.args.d.now = omega (arith, c.requires.room, length_parameters) in
    wrote_parameters (side_of w.comeback) (said_by w c.args.cookie.now c.args.key.now) (take 5 c.args.d.now) (length-take-le 5 c.args.d.now five)
    (wrote_more (wrote_more (wrote_front c.args.d.now 5 five) c.put_comeback.ensures) c.put_offer.ensures) c.copy_in.ensures
    (c.control.ensures ∙ control_by w c.args.cookie.now c.args.key.now)
