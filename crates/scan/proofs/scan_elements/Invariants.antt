use mathlib.Core.Path.{◌≡◌}
use Rattle.scan.proofs.Scanning.{Scanned}
use Rattle.scan.proofs.scan_elements.Given as goal

abbrev pub invariant-loop-element : goal.invariant-loop-element
invariant-loop-element l =
    (l.element-iterator.body.now ≡ l.body) × Scanned l.body 6 l.places l.element-iterator.at
