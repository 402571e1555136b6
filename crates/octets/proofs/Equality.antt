-- Laws of `same_octets`: the test holds of equal strings and of no others.
use Prim.Native.Nat.{ℕ}
use mathlib.Core.Path.{◌≡◌, refl, ap₂}
use mathlib.Core.List.{List, [], ◌∷◌}
use mathlib.Core.Bool.{Bool, true, false, ◌&&◌, false≢true}
use lib.Dec.{eqb}
use borrow.Author.Tests.{eqb-true, eq-eqb}
use Rattle.octets.specs.Equality.{same_octets}

pub same_refl : (a : List ℕ) → same_octets a a ≡ true
same_refl [] = refl
same_refl (x ∷ xs) = rw (eq-eqb x x refl) (same_refl xs)

pub same_eq : (a b : List ℕ) → same_octets a b ≡ true → a ≡ b
same_eq [] [] e = refl
same_eq [] (y ∷ ys) e = absurd (false≢true e)
same_eq (x ∷ xs) [] e = absurd (false≢true e)
same_eq (x ∷ xs) (y ∷ ys) e = go (same_eq xs ys) (eqb x y) refl e
  where
    go : (same_octets xs ys ≡ true → xs ≡ ys) → (t : Bool) → eqb x y ≡ t → t && same_octets xs ys ≡ true → x ∷ xs ≡ y ∷ ys
    go ih true q e = ap₂ (λ (z : ℕ) (zs : List ℕ). z ∷ zs) (eqb-true x y q) (ih e)
    go ih false q e = absurd (false≢true e)
