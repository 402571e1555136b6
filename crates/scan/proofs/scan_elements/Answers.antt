use mathlib.Core.Path.{◌≡◌, sym, ◌∙◌}
use Rattle.std.specs.Prelude.{Err}
use Rattle.std.proofs.Common.{rules}
use Rattle.scan.proofs.Scanning.{scanned_all, scanned_failed}
use Rattle.scan.proofs.scan_elements.Goals as goal

pub returns-in_err-e : goal.returns-in_err-e
returns-in_err-e c =
    let told : c.from_residual.result ≡ Err (record { 0 = c.loop-element.element-iterator.at }) = search rules in
    told ∙ sym (scanned_failed c.loop-element.invariant.1 (search rules))

pub returns : goal.returns
returns c = sym (scanned_all c.loop-element.invariant.1 (search rules))
