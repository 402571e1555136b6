use Prim.Native.Nat.{◌/◌}
use lib.ListN.{length}
use Rattle.octets.specs.Pieces.{pieces}
use Rattle.cache.specs.File.{records_of}
use Rattle.cache.proofs.Search.{Tried}
use Rattle.cache.proofs.Cache.choose.Given as goal

abbrev pub invariant-loop-k : goal.invariant-loop-k
invariant-loop-k l =
    (goal.iterator-loop-k).can_next l.k-iterator × (goal.iterator-loop-k).is_finite l.k-iterator
    × Tried (records_of l.self.octets.now) (pieces 16 (length l.pmkids / 16) l.pmkids) l.akm l.reading (length l.yielded)
