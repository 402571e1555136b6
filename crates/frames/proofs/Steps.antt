-- What a step was given, by what it found.
use mathlib.Core.Path.{◌≡◌, sym, ◌∙◌, subst}
use mathlib.Core.List.{List}
use Prim.Native.Nat.{ℕ}
use lib.ListN.{length}
use Rattle.std.specs.Prelude.{Option, None, Some, Result, Ok, Err}
use Rattle.std.specs.Option.{ForSome}
use Rattle.std.specs.Result.{result_ok}
use Rattle.elements.specs.declared.Part.{Part}
use Rattle.elements.specs.Lies.{Lies}
use Rattle.scan.specs.declared.FailedAt.{FailedAt}
use Rattle.scan.specs.declared.Places.{Places}
use Rattle.scan.specs.declared.Times.{Times}
use Rattle.scan.specs.declared.Times.TheVariants.{Never, One, More}
use Rattle.scan.specs.Scan.{scan_of}
use Rattle.scan.specs.Times.{once, at_most_once}
use Rattle.scan.specs.Within.{LiesIf, Within}
use Rattle.scan.proofs.Scanning.{within}

pub walked_to : (r : Result Places FailedAt) {places : Places} → result_ok r ≡ Some places → r ≡ Ok places
walked_to (Ok p) e = cc
walked_to (Err place) e = cc

pub walked_lies : (body : List ℕ) {r : Result Places FailedAt} {o : Option Places} {places : Places}
    → r ≡ scan_of body → o ≡ result_ok r → o ≡ Some places → Within (length body) places
walked_lies body {r} {places = places} e w f = within body places (sym e ∙ walked_to r (sym w ∙ f))

pub once_at : (t : Times) {p : Part} → once t ≡ Some p → t ≡ One p
once_at Never e = cc
once_at (One q) e = cc
once_at (More q) e = cc

-- where an element lies that is there once, or once at most
pub once_lies : {least n : ℕ} (t : Times) {p : Part} → LiesIf least n t → once t ≡ Some p → Lies least n p
once_lies {least} {n} t l e = subst (LiesIf least n) (once_at t e) l

pub at_most_once_lies : {least n : ℕ} (t : Times) {o : Option Part} → LiesIf least n t → at_most_once t ≡ Some o → ForSome o (Lies least n)
at_most_once_lies Never {o} l e p i = let none : None ≡ o = cc in cc
at_most_once_lies {least} {n} (One q) {o} l e p i = let same : q ≡ p = cc in subst (Lies least n) same l
at_most_once_lies (More q) l e p i = cc
