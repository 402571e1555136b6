use Rattle.std.proofs.Common.{length, arith, sym, ap, ◌∙◌}
use Rattle.elements.specs.Lies.{Lies}
use Rattle.parameters.specs.declared.Side.TheVariants.{Station}
use Rattle.rsne.specs.Rsne.{rsne_of}
use Rattle.frames.proofs.Inner.{rsne_lies, key_lies}
use Rattle.frames.proofs.Steps.{walked_lies, once_lies, at_most_once_lies}
use Rattle.frames.proofs.first.read.Goals as goal
use Rattle.frames.proofs.first.read.Goals.{In_ok-at_rsne, In_ok-at_parameters}

rsne : (c : In_ok-at_rsne) → Lies 0 (length c.args.body.now) c.in_ok-at_rsne.at_rsne
rsne c = once_lies _ (walked_lies c.args.body.now c.scan_body.ensures c.ok.ensures.value c.in_ok-places.was).rsne (sym c.once.ensures ∙ c.in_ok-at_rsne.was)

parameters : (c : In_ok-at_parameters) → Lies 1 (length c.args.body.now) c.in_ok-at_parameters.at_parameters
parameters c =
    once_lies _ (walked_lies c.args.body.now c.scan_body.ensures c.ok.ensures.value c.in_ok-places.was).parameters (sym c.once-2.ensures ∙ c.in_ok-at_parameters.was)

pub of-requires : goal.of-requires
of-requires c = rsne (goal.at.of-requires c).In_ok-at_rsne

pub lifetime_at-requires : goal.lifetime_at-requires
lifetime_at-requires c =
    at_most_once_lies _ (walked_lies c.args.body.now c.scan_body.ensures c.ok.ensures.value c.in_ok-places.was).timeout
    (sym c.at_most_once.ensures ∙ c.in_ok-at_timeout.was)

pub parameters_at-requires : goal.parameters_at-requires
parameters_at-requires c = parameters (goal.at.parameters_at-requires c).In_ok-at_parameters

pub shifted-requires : goal.shifted-requires
shifted-requires c =
    let at = rsne (goal.at.shifted-requires c).In_ok-at_rsne in
    let pmkids = rsne_lies c.args.body.now at (sym (c.read.ensures ∙ ap rsne_of c.of.ensures) ∙ c.in_ok-rsne.was) in
    (omega arith, omega arith)

pub overflow_add-at_parameters : goal.overflow_add-at_parameters
overflow_add-at_parameters c =
    let at = parameters (goal.at.overflow_add-at_parameters c).In_ok-at_parameters in
    omega arith

pub shifted-requires-2 : goal.shifted-requires-2
shifted-requires-2 c =
    let at = parameters (goal.at.shifted-requires-2 c).In_ok-at_parameters in
    let key = key_lies c.args.body.now Station at (sym c.parameters_at.ensures ∙ c.in_ok-parameters.was) c.in_ok-group.was in
    (omega arith, omega arith)
