-- A chain of readings, each of which may find nothing: then the chain finds nothing.
use Rattle.std.specs.Prelude.{Option, None, Some}

infixl 20 ◌>>=◌
abbrev pub ◌>>=◌ : {A B : Type 0} → Option A → (A → Option B) → Option B
None >>= f = None
Some x >>= f = f x
