use mathlib.Core.Path.{◌≡◌}
use Prim.Native.Nat.{◌%◌, ◌^◌}
use native.Mathlib.Omega.{arith}
use Rattle.octets.proofs.Parts.{wrote_more, wrote_stands}
use Rattle.writers.specs.Comeback.{comeback_reply}
use Rattle.writers.proofs.comeback.Laws.{comeback_reads_back}
use Rattle.writers.proofs.comeback.put.Goals as goal

pub returns-clause-reads_back : goal.returns-clause-reads_back
unfolding comeback_reply
returns-clause-reads_back c short =
    let e : c.args.after % 2 ^ 16 ≡ c.args.after = omega arith in
    rw (wrote_stands (wrote_more c.put-a.ensures c.put.ensures))
    (rw e at (comeback_reads_back c.args.algorithm c.args.status c.args.after c.args.cookie.now (omega arith) (omega arith) short))
