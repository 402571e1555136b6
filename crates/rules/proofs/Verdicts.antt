-- Verdicts as outcomes.
use mathlib.Core.Path.{◌≡◌, refl, sym, ap, subst, ◌∙◌}
use mathlib.Core.List.{List, [], ◌∷◌, ◌++◌}
use Prim.Native.Nat.{ℕ, suc}
use native.Mathlib.Omega.{arith}
use lib.ListN.{length}
use Rattle.octets.specs.Wrote.{Wrote}
use Rattle.octets.proofs.Parts.{wrote_none}
use Rattle.rules.specs.declared.Answer.{Answer}
use Rattle.rules.specs.declared.Leaves.{Leaves}
use Rattle.rules.specs.declared.Verdict.{Verdict}
use Rattle.rules.specs.OnePeer.{Outcome, unchanged, lost}
use Rattle.rules.specs.Told.{Gets, Decides}

pub gets_same : {o o' : Outcome} {before after : List ℕ} {r : Verdict} → o ≡ o' → Gets o before after r → Gets o' before after r
gets_same {before = before} {after = after} {r = r} e g = subst (λ (o : Outcome). Gets o before after r) e g

-- a verdict that writes nothing
abbrev silent : Answer → Leaves → Verdict
silent answer leaves = record { answer = answer; length = 0; leaves = leaves }

pub stays : {answer : Answer} {r : Verdict} (d : List ℕ) → r ≡ silent answer Leaves.Same → Gets (unchanged answer) d d r
stays {answer} d e = subst (Gets (unchanged answer) d d) (sym e) (record { answer = refl; wrote = wrote_none d; leaves = refl })

pub goes : {answer : Answer} {r : Verdict} (d : List ℕ) → r ≡ silent answer Leaves.Gone → Gets (lost answer) d d r
goes {answer} d e = subst (Gets (lost answer) d d) (sym e) (record { answer = refl; wrote = wrote_none d; leaves = refl })

no_front : (l m : List ℕ) → [] ≡ l ++ m → l ≡ []
no_front [] m e = refl
no_front (x ∷ l) m e = absurd (let z : ◌≡◌ {A = ℕ} 0 (suc (length (l ++ m))) = ap length e in omega (arith, z))

-- what writes nothing into an empty buffer leaves any buffer as it was
pub in_any : {o : Outcome} {r : Verdict} (d : List ℕ) → Decides o r → Gets o d d r
in_any {o} {r} d g =
    let empty = no_front o.reply _ g.wrote.leaves in
    record {
      answer = g.answer;
      wrote = subst (λ (l : List ℕ). Wrote l r.length d d) (sym empty) (subst (λ (n : ℕ). Wrote [] n d d) (sym (g.wrote.tells ∙ ap length empty)) (wrote_none d));
      leaves = g.leaves;
    }
