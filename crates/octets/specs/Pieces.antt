-- A string of octets cut into pieces of one size.
use Rattle.std.specs.Prelude.{ℕ, zero, suc, List, [], ◌∷◌, take, drop}

-- the first so many pieces
unfoldable pub pieces : ℕ → ℕ → List ℕ → List (List ℕ)
pieces size zero s = []
pieces size (suc count) s = take size s ∷ pieces size count (drop size s)
