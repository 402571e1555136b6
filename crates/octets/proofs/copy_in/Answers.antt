use Prim.Native.Nat.{ℕ}
use mathlib.Core.Path.{ap, ◌∙◌}
use native.Mathlib.Numerals.{add-one}
use native.Mathlib.Omega.{arith}
use lib.Seq.{take-suc, take-length}
use Rattle.octets.proofs.Parts.{writing_none, writing_more, writing_done}
use borrow.Author.Rules.{rules}
use lib.ListN.{take, get_or}
use Rattle.octets.proofs.copy_in.Goals as goal

pub loop-i-init : goal.loop-i-init
loop-i-init c = (search rules, writing_none _)

pub bounds-d-i : goal.bounds-d-i
bounds-d-i c = omega (arith, c.loop-i.invariant.1.kept)

pub loop-i-preserved : goal.loop-i-preserved
loop-i-preserved c =
    let src = c.args.src.now in (
      search rules,
      writing_more (get_or src c.loop-i.i 0) c.loop-i.invariant.1 (omega arith) (ap (λ (k : ℕ). take k src) (add-one c.loop-i.i) ∙ take-suc src c.loop-i.i 0 c.loop-i-test.true),
    )

pub shape_of-d : goal.shape_of-d
shape_of-d c = c.loop-i.invariant.1.kept

pub returns : goal.returns
returns c =
    let src = c.args.src.now in
    rw take-length at (writing_done (λ k. take k src) c.loop-i.invariant.1 c.loop-i.invariant.0 c.loop-i-test.false)
