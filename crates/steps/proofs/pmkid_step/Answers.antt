use Rattle.std.proofs.Common.{sym, ◌∙◌}
use Rattle.cache.specs.File.{records_of}
use Rattle.rules.specs.declared.Refusal.{Refusal}
use Rattle.rules.proofs.Inversion.{found}
use Rattle.rules.proofs.Pmkids.{in_list}
use Rattle.steps.proofs.pmkid_step.Goals as goal

pub pmkid_at-requires : goal.pmkid_at-requires
pmkid_at-requires c =
    in_list (records_of c.args.cache.octets.now) c.args.pmkids.now c.args.akm.kind c.args.reading
    (sym c.choose.ensures ∙ found c.choose.result Refusal.Pmkid (sym c.ok_or.ensures.value ∙ c.in_ok-choice.was))
