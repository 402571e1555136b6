-- What holds of both sides holds of a choice by a test.
use mathlib.Core.Path.{◌≡◌, refl}
use mathlib.Core.Bool.{Bool, true, false}
use Rattle.std.specs.Prelude.{if◌then◌else◌}

module _ {X : Type 0} (P : X → Type 0) where
  pub either_way : (b : Bool) {x y : X} → (b ≡ true → P x) → (b ≡ false → P y) → P (if b then x else y)
  either_way true f g = f refl
  either_way false f g = g refl

  pub unless : (b : Bool) {x y : X} → P x → (b ≡ false → P y) → P (if b then x else y)
  unless b h g = either_way b (λ e. h) g
