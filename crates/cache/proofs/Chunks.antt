-- The pieces of a string, as `chunks_exact` gives them.
use mathlib.Core.Path.{◌≡◌, ap, subst, ◌∙◌}
use mathlib.Core.List.{List, ◌∷◌, ◌++◌}
use Prim.Native.Nat.{ℕ, suc, ◌+◌, ◌/◌, ◌<◌}
use native.Mathlib.Nat.{div-eq_of_lt, add-div_left, zero-add}
use native.Mathlib.Omega.{arith}
use native.Mathlib.Numerals.{add-one}
use lib.ListN.{length, get_or, length-append}
use lib.Seq.{take_at, drop_at}
use Rattle.std.specs.Prelude.{Option, None, Some}
use Rattle.std.specs.declared.iter.Enumerate.{Enumerate}
use Rattle.std.specs.Iterator.{Yields}
use Rattle.std.specs.Iterator.Adapters.{enumerate_source, enumerate_count, enumerate_steps}
use Rattle.std.specs.List.{enumerate_from}
use Rattle.std.specs.Slice.Iter.{chunks_exact_rest, chunks_exact_size, chunks_exact_steps}
use Rattle.std.proofs.lemmas.Iterator.{YieldsList}
use Rattle.std.proofs.lemmas.Iterator.Consumers.{YieldsList-from_enumerate, YieldsList-turn, YieldsList-end}
use Rattle.std.proofs.lemmas.List.FromFn.{length-enumerate_from, get_or-enumerate_from}
use Rattle.std.proofs.lemmas.Iterator.Splits.{YieldsList-from_shown_while}
use Rattle.octets.specs.Pieces.{pieces}
use Rattle.octets.proofs.Pieces.{length_pieces}

abbrev whole_pieces : ℕ → List ℕ → List (List ℕ)
whole_pieces size s = pieces size (length s / size) s

first_piece : (size : ℕ) (x s : List ℕ) → length x ≡ size → 0 < size → whole_pieces size (x ++ s) ≡ x ∷ whole_pieces size s
unfolding pieces
first_piece size x s e h =
    let n : length (x ++ s) / size ≡ suc (length s / size) =
    ap (λ (k : ℕ). k / size) (length-append x s ∙ ap (λ (k : ℕ). k + length s) e) ∙ add-div_left (length s) h ∙ add-one (length s / size) in
    rw (n, take_at x s size e, drop_at x s size e)

pub YieldsList-from_chunks_exact : {s : _} (size : ℕ) (xs : List ℕ) → chunks_exact_rest s ≡ xs → chunks_exact_size s ≡ size → 0 < size
    → YieldsList (chunks_exact_steps {A = ℕ}) (λ y. y.now) s (pieces size (length xs / size) xs)
YieldsList-from_chunks_exact {s} size xs e f h =
    subst (λ (l : List ℕ). YieldsList chunks_exact_steps (λ y. y.now) s (whole_pieces size l)) e
    (YieldsList-from_shown_while chunks_exact_steps (λ y. y.now) (λ t. whole_pieces size (chunks_exact_rest t)) (λ t. chunks_exact_size t ≡ size)
    (λ t u g n. length_pieces size (length (chunks_exact_rest t) / size) (chunks_exact_rest t) ∙ div-eq_of_lt (omega (arith, g, n.1.0)))
    (λ t x u g n. (n.0 ∙ g, ap (whole_pieces size) n.1.0 ∙ first_piece size x.now (chunks_exact_rest u) (n.1.1 ∙ g) h)) s f)

-- One turn of a loop over a numbered list, where so many came before.
pub record Turn {B : Type 0} (xs : List B) (before number : ℕ) (x : B) : Type 0 where
  pub counts : number ≡ before
  pub within : before < length xs
  pub is : x ≡ get_or xs before x

module _ {S A B : Type 0} {steps : S → Option A → S → Type 0} {v : A → B} {s : Enumerate S} {xs : List B} (chain : YieldsList steps v (enumerate_source s) xs)
    (start : enumerate_count s ≡ 0) (yielded : List (ℕ × A)) (t : Enumerate S) (y : Yields (enumerate_steps steps) s yielded t) (r : Option (ℕ × A)) (u : Enumerate S) where
  numbered : YieldsList {B = ℕ × B} (enumerate_steps steps) (λ p. (p.0, v p.1)) s (enumerate_from 0 xs)
  numbered = YieldsList-from_enumerate chain start

  pub numbered_turn : (k : ℕ) (x : A) → r ≡ Some (k, x) → enumerate_steps steps t r u → Turn xs (length yielded) k (v x)
  numbered_turn k x is n =
      let turn = YieldsList-turn numbered yielded t y r u (k, x) is n in
      let within : length yielded < length xs = omega (arith, turn.0, length-enumerate_from 0 xs) in
      let e = turn.1 ∙ get_or-enumerate_from 0 xs (length yielded) (k, v x) within in
      record { counts = ap (λ (p : ℕ × B). p.0) e ∙ zero-add (length yielded); within = within; is = ap (λ (p : ℕ × B). p.1) e }

  pub numbered_end : r ≡ None → enumerate_steps steps t r u → length yielded ≡ length xs
  numbered_end is n = (YieldsList-end numbered yielded t y r u is n).1 ∙ length-enumerate_from 0 xs
