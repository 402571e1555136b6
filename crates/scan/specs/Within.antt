-- Where what a scan finds lies in a string of n octets.
use Rattle.std.specs.Prelude.{ℕ}
use Rattle.elements.specs.Lies.{Lies}
use Rattle.scan.specs.declared.Times.{Times}
use Rattle.scan.specs.declared.Times.TheVariants.{Never, One, More}
use Rattle.scan.specs.declared.Places.{Places}

abbrev pub LiesIf : ℕ → ℕ → Times → Type 0
LiesIf least n Never = Unit {0}
LiesIf least n (One p) = Lies least n p
LiesIf least n (More p) = Lies least n p

-- an element of ID 255 has its extension ID at least
pub record Within (n : ℕ) (p : Places) : Type 0 where
  pub rsne : LiesIf 0 n p.rsne
  pub timeout : LiesIf 0 n p.timeout
  pub mic : LiesIf 0 n p.mic
  pub fragment : LiesIf 0 n p.fragment
  pub parameters : LiesIf 1 n p.parameters
  pub wrapped : LiesIf 1 n p.wrapped
