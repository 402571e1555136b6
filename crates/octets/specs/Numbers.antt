-- Numbers in octets, the lowest octet first, over the width.
use Rattle.std.specs.Prelude.{ℕ, zero, suc, ◌+◌, ◌*◌, ◌/◌, ◌%◌, List, [], ◌∷◌, ◌++◌, get_or}

-- the number in w octets of s from a place on; octets past the end of s read as 0
unfoldable pub le : ℕ → List ℕ → ℕ → ℕ
le zero s at = 0
le (suc w) s at = get_or s at 0 + 256 * le w s (at + 1)

-- the lowest w octets of a number
unfoldable pub octets : ℕ → ℕ → List ℕ
octets zero n = []
octets (suc w) n = (n % 256 ∷ []) ++ octets w (n / 256)
