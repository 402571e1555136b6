-- Chains of steps that each find something or nothing.
use mathlib.Core.Path.{◌≡◌, refl}
use Rattle.std.specs.Prelude.{Option, None, Some}
use Rattle.octets.proofs.Options.{none-ne-some}
use Rattle.octets.specs.Maybe.{◌>>=◌}

-- A chain that finds something: its first step does, and so does what is left of it.
pub found : {A B G : Type 0} {y : B} (m : Option A) {f : A → Option B} → (m >>= f) ≡ Some y → ((x : A) → m ≡ Some x → f x ≡ Some y → G) → G
found None e h = absurd (none-ne-some _ e)
found (Some x) e h = h x refl e
