-- Strings that differ at a place are not the same.
use Rattle.std.proofs.Common.{ℕ, ◌≡◌, Bool, true, false, List, get_or, refl, ap}
use Rattle.octets.specs.Equality.{same_octets}
use Rattle.octets.proofs.Equality.{same_eq}

pub unlike : (a b : List ℕ) (i : ℕ) → (get_or a i 0 ≡ get_or b i 0 → ⊥) → same_octets a b ≡ false
unlike a b i h = go (same_octets a b) refl
  where
    go : (t : Bool) → same_octets a b ≡ t → t ≡ false
    go true e = absurd (h (ap (λ (l : List ℕ). get_or l i 0) (same_eq a b e)))
    go false e = refl
