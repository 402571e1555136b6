use Prim.Native.Nat.{◌≤◌}
use Rattle.octets.proofs.Parts.{Writing}
use lib.ListN.{length, take}
use Rattle.octets.proofs.copy_in.Given as goal

abbrev pub invariant-loop-i : goal.invariant-loop-i
invariant-loop-i l = (l.i ≤ length l.src) × Writing l.initial.d (take l.i l.src) l.d l.i
