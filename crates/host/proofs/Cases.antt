-- Worked examples of what is told.
use mathlib.Core.Path.{◌≡◌, refl}
use Rattle.rules.specs.declared.Answer.{Answer}
use Rattle.rules.specs.declared.Refusal.{Refusal}
use Rattle.host.specs.Host.{status_number}

pub a_refusal_tells_its_status : status_number (Answer.Refused Refusal.Pmkid) ≡ 53
a_refusal_tells_its_status = refl

pub no_status_beside_15 : status_number Answer.Installed ≡ 0
no_status_beside_15 = refl
