use mathlib.Core.Path.{◌≡◌}
use Prim.Native.Nat.{◌/◌, ◌%◌}
use native.Mathlib.Omega.{arith}
use lib.ListN.{length}
use Rattle.octets.specs.Numbers.{octets}
use Rattle.octets.proofs.Parts.{wrote_more}
use Rattle.suites.specs.Suite.{suite_octets}
use Rattle.rsne.specs.Rsne.{rsne_octets}
use Rattle.rsne.proofs.put.Goals as goal

pub returns : goal.returns
unfolding rsne_octets octets suite_octets
returns c =
    let n = length c.args.pmkids.now in
    let e₀ : n / 16 % 256 ≡ n / 16 = omega arith in
    let e₁ : n / 16 / 256 % 256 ≡ 0 = omega arith in
    rw (e₀, e₁) (wrote_more (wrote_more c.copy_in-a.ensures c.copy_in.ensures) c.put_suite.ensures)
