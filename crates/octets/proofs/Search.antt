-- The three laws of a search from the front: at i, where nothing before i passes.
use Prim.Native.Nat.{ℕ, ◌+◌, ◌≤◌, ◌<◌}
use mathlib.Core.Path.{◌≡◌, refl, sym, ap, ◌∙◌}
use mathlib.Core.Bool.{Bool, true, false, ◌&&◌, false≢true, cond}
use mathlib.Core.List.{List, [], ◌∷◌}
use Rattle.std.specs.Prelude.{None, Some}
use Rattle.octets.proofs.Options.{some-injective, none-ne-some}
use native.Mathlib.Numerals.{add-one}
use lib.ListN.{length, get_or, drop, drop_of_length-le}
use lib.Seq.{drop-cons}
use Rattle.std.specs.List.{find, list_all}

module _ {A : Type 0} (f : A → Bool) (xs : List A) (i : ℕ) (d : A) where
  module _ (h : i < length xs) where
    first_step : find f (drop i xs) ≡ cond (f (get_or xs i d)) (Some (get_or xs i d)) (find f (drop (i + 1) xs))
    first_step = rw (add-one, drop-cons xs i d h)

    pub first_stops : f (get_or xs i d) ≡ true → find f xs ≡ find f (drop i xs) → find f xs ≡ Some (get_or xs i d)
    first_stops e inv = inv ∙ first_step ∙ rw e

    pub first_goes : f (get_or xs i d) ≡ false → find f xs ≡ find f (drop i xs) → find f xs ≡ find f (drop (i + 1) xs)
    first_goes e inv = inv ∙ first_step ∙ rw e

pub first_ends : {A : Type 0} (f : A → Bool) (xs : List A) (i : ℕ) → length xs ≤ i → find f xs ≡ find f (drop i xs) → find f xs ≡ None
first_ends f xs i h inv = inv ∙ rw (drop_of_length-le xs h)

-- what a search found passes its test, and every test that the whole list passes
pub first_found : {A : Type 0} (f g : A → Bool) (xs : List A) (x : A) → list_all g xs ≡ true → find f xs ≡ Some x → (f x ≡ true) × (g x ≡ true)
first_found f g [] x t e = absurd (none-ne-some x e)
first_found f g (y ∷ ys) x t e = go (first_found f g ys x) (f y) refl (g y) refl t e
  where
    go : (list_all g ys ≡ true → find f ys ≡ Some x → (f x ≡ true) × (g x ≡ true)) → (a : Bool) → f y ≡ a → (b : Bool) → g y ≡ b
        → b && list_all g ys ≡ true → cond a (Some y) (find f ys) ≡ Some x → (f x ≡ true) × (g x ≡ true)
    go ih true p true q t e =
        let s : y ≡ x = some-injective y x e in
        (ap f (sym s) ∙ p, ap g (sym s) ∙ q)
    go ih true p false q t e = absurd (false≢true t)
    go ih false p true q t e = ih t e
    go ih false p false q t e = absurd (false≢true t)
