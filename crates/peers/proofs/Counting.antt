-- Laws of counting, of a test of all, and of a search.
use Prim.Native.Nat.{ℕ, zero, suc, ◌+◌, ◌≤◌, ◌<◌}
use mathlib.Core.Path.{◌≡◌, refl, sym, ap, ◌∙◌}
use mathlib.Core.Bool.{Bool, true, false, ◌&&◌, false≢true}
use mathlib.Core.List.{List, [], ◌∷◌}
use Rattle.std.specs.Prelude.{None, Some, if◌then◌else◌}
use Rattle.octets.proofs.Options.{some-injective, none-ne-some, some-ne-none}
use native.Mathlib.Omega.{arith}
use lib.ListN.{length, replicate}
use Rattle.std.specs.List.{find, list_all, count_by}
use Rattle.std.proofs.lemmas.List.Sums.{sum_by-cons, count_by-le-length}
use Rattle.octets.proofs.Logic.{both}

module _ {A : Type 0} (f : A → Bool) where
  pub count_step : (x : A) (xs : List A) → count_by f (x ∷ xs) ≡ (if f x then 1 else 0) + count_by f xs
  count_step x xs = sum_by-cons (λ y. if f y then 1 else 0) x xs

  -- no more pass a stricter test
  pub count_stricter : (g : A → Bool) → ((x : A) → f x ≡ false → g x ≡ false) → (xs : List A) → count_by g xs ≤ count_by f xs
  count_stricter g h [] = omega arith
  count_stricter g h (x ∷ xs) = rw (count_step x xs, sum_by-cons (λ y. if g y then 1 else 0) x xs) (go (count_stricter g h xs) (f x) refl (g x) refl)
    where
      go : count_by g xs ≤ count_by f xs → (b : Bool) → f x ≡ b → (c : Bool) → g x ≡ c → (if c then 1 else 0) + count_by g xs ≤ (if b then 1 else 0) + count_by f xs
      go ih true e true k = omega arith
      go ih true e false k = omega arith
      go ih false e true k = absurd (false≢true (sym (h x e) ∙ k))
      go ih false e false k = omega arith

  -- As many pass as there are, or fewer.
  pub count_all : (xs : List A) → list_all f xs ≡ true → count_by f xs ≡ length xs
  count_all [] e = refl
  count_all (x ∷ xs) e =
      let h = both (f x) (list_all f xs) e in
      rw (count_step x xs, h.0) (omega (arith, count_all xs h.1))

  pub count_fewer : (xs : List A) → list_all f xs ≡ false → count_by f xs < length xs
  count_fewer [] e = absurd (false≢true (sym e))
  count_fewer (x ∷ xs) e = rw (count_step x xs) (go (count_fewer xs) (f x) e)
    where
      go : (list_all f xs ≡ false → count_by f xs < length xs) → (b : Bool) → b && list_all f xs ≡ false → (if b then 1 else 0) + count_by f xs < suc (length xs)
      go ih true e = omega (arith, ih e)
      go ih false e = omega (arith, count_by-le-length f xs)

  -- where every one passes, a search for what does not pass finds none
  pub first_none : (g : A → Bool) → ((x : A) → f x ≡ true → g x ≡ false) → (xs : List A) → list_all f xs ≡ true → find g xs ≡ None
  first_none g h [] e = refl
  first_none g h (x ∷ xs) e =
      let k = both (f x) (list_all f xs) e in
      rw (h x k.0) (first_none g h xs k.1)

  pub first_repeated : (x : A) (k : ℕ) → f x ≡ false → find f (replicate k x) ≡ None
  first_repeated x zero e = refl
  first_repeated x (suc k) e = rw e (first_repeated x k e)

  pub count_repeated : (x : A) (k : ℕ) → f x ≡ false → count_by f (replicate k x) ≡ 0
  count_repeated x zero e = refl
  count_repeated x (suc k) e = rw (count_step x (replicate k x), e) (omega (arith, count_repeated x k e))

  -- what a search found passes its test
  pub first_passes : (xs : List A) (x : A) → find f xs ≡ Some x → f x ≡ true
  first_passes [] x e = absurd (none-ne-some x e)
  first_passes (y ∷ ys) x e = go (first_passes ys x) (f y) refl e
    where
      go : (find f ys ≡ Some x → f x ≡ true) → (b : Bool) → f y ≡ b → (if b then Some y else find f ys) ≡ Some x → f x ≡ true
      go ih true k e = ap f (sym (some-injective y x e)) ∙ k
      go ih false k e = ih e

  -- a search that finds none finds none by a stricter test either
  pub first_stricter : (g : A → Bool) → ((x : A) → f x ≡ false → g x ≡ false) → (xs : List A) → find f xs ≡ None → find g xs ≡ None
  first_stricter g h [] e = refl
  first_stricter g h (x ∷ xs) e = go (first_stricter g h xs) (f x) refl e
    where
      go : (find f xs ≡ None → find g xs ≡ None) → (b : Bool) → f x ≡ b → (if b then Some x else find f xs) ≡ None
          → (if g x then Some x else find g xs) ≡ None
      go ih true k e = absurd (some-ne-none x e)
      go ih false k e = rw (h x k) (ih e)
