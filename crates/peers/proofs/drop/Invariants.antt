use Rattle.peers.specs.View.{vacant_peer}
use Rattle.peers.proofs.Filling.{Filling}
use Rattle.peers.proofs.Promised.{elsewhere}
use Rattle.peers.proofs.drop.Given as goal

abbrev pub invariant-loop-place : goal.invariant-loop-place
invariant-loop-place g l = Filling (elsewhere l.address) vacant_peer (g.S.Places.table l.initial.s) vacant_peer (g.S.Places.table l.s) l.place
