use Rattle.std.specs.Prelude.{if◌then◌else◌}
use Rattle.peers.specs.View.{vacant_peer}
use Rattle.peers.proofs.Filling.{Filling}
use Rattle.peers.proofs.Promised.{taken}
use Rattle.peers.proofs.put.Given as goal

abbrev pub invariant-loop-i : goal.invariant-loop-i
invariant-loop-i g l =
    Filling (taken l.reading l.p.address) l.p (g.S.Places.table l.initial.s) (if l.placed then vacant_peer else l.p) (g.S.Places.table l.s) l.i
