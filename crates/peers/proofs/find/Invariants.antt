use Rattle.peers.proofs.Searching.{Searched}
use Rattle.peers.proofs.find.Given as goal

abbrev pub invariant-loop-i : goal.invariant-loop-i
invariant-loop-i g l = Searched (g.S.Places.table l.s) l.address l.reading l.free l.i
