-- What a writer promises of the part that it was lent.
use Rattle.std.specs.Prelude.{ℕ, ◌≡◌, List, ◌++◌, length, drop}

-- `written` stands at the front, what stood behind it is kept, and the number told is its length
pub record Wrote (written : List ℕ) (told : ℕ) (before after : List ℕ) : Type 0 where
  pub tells : told ≡ length written
  pub leaves : after ≡ written ++ drop (length written) before
