use Rattle.std.proofs.Common.{length, arith, sym, ◌∙◌}
use lib.ListN.{length-take, length-drop}
use borrow.Author.Tests.{le-ltb}
use Rattle.octets.proofs.Parts.{wrote_length}
use Rattle.elements.specs.Lies.{Lies}
use Rattle.chip.specs.Chip.{zero_number, zeroed}
use Rattle.chip.proofs.Laws.{mic_lies, mic_zeroed}
use Rattle.chip.proofs.zero_mic.Goals as goal
use Rattle.chip.proofs.zero_mic.Goals.{In-Some}

lies : (c : In-Some) → Lies 0 (length c.args.body.now) c.in-Some.mic
lies c = mic_lies c.args.body.now c.in-Some.mic (sym c.mic_in.ensures ∙ c.in-Some.is)

pub slice_bounds-zero-count : goal.slice_bounds-zero-count
slice_bounds-zero-count c =
    omega (arith, wrote_length c.copy_in.ensures c.if-out-body.false, lies (goal.at.slice_bounds-zero-count c).In-Some)

pub slice_bounds-zero-start : goal.slice_bounds-zero-start
slice_bounds-zero-start c =
    omega (arith, wrote_length c.copy_in.ensures c.if-out-body.false, lies (goal.at.slice_bounds-zero-start c).In-Some)

pub overflow_sub-mic : goal.overflow_sub-mic
overflow_sub-mic c = omega (arith, lies (goal.at.overflow_sub-mic c).In-Some)

pub zero-requires : goal.zero-requires
zero-requires c =
    rw (length-take, length-drop) (omega (arith, wrote_length c.copy_in.ensures c.if-out-body.false, lies (goal.at.zero-requires c).In-Some))

pub returns : goal.returns
unfolding zero_number zeroed
returns c = record {
  number = rw (sym c.mic_in.ensures ∙ c.in-Some.is, le-ltb _ _ c.if-out-body.false);
  octets = rw (sym c.mic_in.ensures ∙ c.in-Some.is, le-ltb _ _ c.if-out-body.false)
      (mic_zeroed c.args.body.now c.args.out.now _ _ c.in-Some.mic (lies (goal.at.returns c).In-Some) c.copy_in.ensures c.zero.ensures);
}
