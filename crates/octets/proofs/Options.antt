-- The variants of an `Option`, told apart.
use Rattle.std.specs.Prelude.{◌≡◌, Some, None}

pub some-injective : {A : Type 0} (x y : A) → Some x ≡ Some y → x ≡ y
some-injective x y e = cc

pub none-ne-some : {A : Type 0} (x : A) → None ≡ Some x → ⊥
none-ne-some x e = cc

pub some-ne-none : {A : Type 0} (x : A) → Some x ≡ None → ⊥
some-ne-none x e = cc
