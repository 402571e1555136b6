use Rattle.std.proofs.Common.{arith, sym, ◌∙◌}
use Rattle.frames.proofs.Steps.{walked_lies, once_lies}
use Rattle.chip.proofs.mic_in.Goals as goal

pub overflow_sub-mic : goal.overflow_sub-mic
overflow_sub-mic c =
    let w = walked_lies c.args.body.now c.scan_body.ensures c.ok.ensures.value c.in_ok-places.was in
    let at = once_lies c.in_ok-places.places.mic w.mic (sym c.once.ensures ∙ c.in_ok-mic.was) in
    omega arith
