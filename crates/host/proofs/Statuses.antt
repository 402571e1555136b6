-- No answer but a refusal has a status.
use mathlib.Core.Path.{◌≡◌, refl}
use Rattle.rules.specs.declared.Answer.{Answer}
use Rattle.rules.specs.declared.Refusal.{Refusal}
use Rattle.host.specs.Host.{status_number}

pub unrefused : (answer : Answer) → ((why : Refusal) → answer ≡ Answer.Refused why → ⊥) → 0 ≡ status_number answer
unrefused Answer.Accepted h = refl
unrefused Answer.ClockOut h = refl
unrefused Answer.BufferShort h = refl
unrefused Answer.SettingsOut h = refl
unrefused Answer.GroupAddress h = refl
unrefused Answer.CacheIll h = refl
unrefused Answer.OwnKey h = refl
unrefused Answer.BodyLength h = refl
unrefused Answer.Algorithm h = refl
unrefused Answer.Transaction h = refl
unrefused Answer.PeerInstalled h = refl
unrefused (Answer.Refused why) h = absurd (h why refl)
unrefused Answer.StatusNotZero h = refl
unrefused Answer.NoExchange h = refl
unrefused Answer.ThirdRefused h = refl
unrefused Answer.Installed h = refl
