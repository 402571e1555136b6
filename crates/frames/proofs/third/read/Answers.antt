use Rattle.std.proofs.Common.{arith, sym, ◌∙◌}
use Rattle.frames.proofs.Steps.{walked_lies, once_lies}
use Rattle.frames.proofs.third.read.Goals as goal

pub parameters_at-requires : goal.parameters_at-requires
parameters_at-requires c =
    let w = walked_lies c.args.body.now c.scan_body.ensures c.ok.ensures.value c.in_ok-places.was in
    once_lies c.in_ok-places.places.parameters w.parameters (sym c.once.ensures ∙ c.in_ok-at_parameters.was)

pub overflow_sub-mic : goal.overflow_sub-mic
overflow_sub-mic c =
    let w = walked_lies c.args.body.now c.scan_body.ensures c.ok.ensures.value c.in_ok-places.was in
    let at = once_lies c.in_ok-places.places.mic w.mic (sym c.once-2.ensures ∙ c.in_ok-mic.was) in
    omega arith
