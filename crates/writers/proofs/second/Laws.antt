-- How long a second frame is, and what it fits.
use mathlib.Core.Path.{◌≡◌}
use mathlib.Core.List.{List}
use Prim.Native.Nat.{ℕ, ◌≤◌}
use native.Mathlib.Omega.{arith}
use lib.ListN.{length, length-append}
use Rattle.suites.specs.Tables.{longest_key, longest_mic}
use Rattle.rsne.specs.Rsne.{pmkid_size}
use Rattle.layouts.proofs.mic.Laws.{length_mic}
use Rattle.parameters.proofs.Laws.{length_with_key}
use Rattle.rsne.proofs.Laws.{length_rsne}
use Rattle.layouts.proofs.timeout.Laws.{length_timeout}
use Rattle.writers.specs.declared.second.Chosen.{Chosen}
use Rattle.writers.specs.Second.{second_octets, second_size, longest_second, SecondFits}
use Rattle.writers.proofs.header.Laws.{length_header}

-- how long each piece is
pub ruleset lengths = (length-append, length_header, length_rsne, length_timeout, length_with_key, length_mic)

pub length_second : (chosen : Chosen) (pmkids key : List ℕ) → length (second_octets chosen pmkids key) ≡ second_size (length pmkids) (length key) chosen.mic
unfolding second_octets
length_second chosen pmkids key = simp lengths (omega arith)

-- One PMKID at most, and a key and a MIC of the tables.
pub longest_fits : {chosen : Chosen} {p k n : ℕ} → p ≤ pmkid_size → k ≤ longest_key → chosen.mic ≤ longest_mic → longest_second ≤ n → SecondFits chosen p k n
longest_fits hp hk hm hn = record { pmkids = omega arith; key = omega arith; mic = omega arith; room = omega arith }
