use Rattle.std.proofs.Common.{length, arith, sym, ◌∙◌}
use lib.ListN.{length-take, length-drop}
use borrow.Author.Tests.{eq-eqb}
use Rattle.elements.specs.Lies.{Lies}
use Rattle.chip.specs.Chip.{set_number, set_octets}
use Rattle.chip.proofs.Laws.{mic_lies, mic_set}
use Rattle.chip.proofs.set_mic.Goals as goal
use Rattle.chip.proofs.set_mic.Goals.{In-Some}

lies : (c : In-Some) → Lies 0 (length c.args.body.now) c.in-Some.at
lies c = mic_lies c.args.body.now c.in-Some.at (sym c.mic_in.ensures ∙ c.in-Some.is)

pub overflow_sub-at : goal.overflow_sub-at
overflow_sub-at c = (omega (arith, lies (goal.at.overflow_sub-at c).In-Some))

pub slice_bounds-copy_in-count : goal.slice_bounds-copy_in-count
slice_bounds-copy_in-count c = omega (arith, lies (goal.at.slice_bounds-copy_in-count c).In-Some)

pub slice_bounds-copy_in-start : goal.slice_bounds-copy_in-start
slice_bounds-copy_in-start c = omega (arith, lies (goal.at.slice_bounds-copy_in-start c).In-Some)

pub copy_in-requires : goal.copy_in-requires
copy_in-requires c = rw (length-take, length-drop) (omega (arith, lies (goal.at.copy_in-requires c).In-Some))

pub returns : goal.returns
unfolding set_number set_octets
returns c = record {
  number = rw (sym c.mic_in.ensures ∙ c.in-Some.is, eq-eqb _ _ c.if-at-mic.false);
  octets = rw (sym c.mic_in.ensures ∙ c.in-Some.is, eq-eqb _ _ c.if-at-mic.false)
      (mic_set c.args.body.now c.args.mic.now _ c.in-Some.at (lies (goal.at.returns c).In-Some) c.if-at-mic.false c.copy_in.ensures);
}
