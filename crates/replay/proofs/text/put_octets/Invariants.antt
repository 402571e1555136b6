use Rattle.std.proofs.Common.{◌≡◌}
use Rattle.replay.proofs.text.put_octets.Given as goal

abbrev pub invariant-loop-octets : goal.invariant-loop-octets
invariant-loop-octets g l =
    (goal.iterator-loop-octets g).can_next l.octets-iterator ×
    (goal.iterator-loop-octets g).is_finite l.octets-iterator × (l.octets-iterator.size ≡ 256)
