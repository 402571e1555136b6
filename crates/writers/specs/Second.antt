-- The second frame: RSNE, Timeout, PASN Parameters, MIC of zeros, each where the last one ended.
use Rattle.std.specs.Prelude.{ℕ, ◌+◌, ◌<◌, ◌≤◌, None, Some, List, ◌++◌}
use Rattle.suites.specs.Tables.{longest_key, longest_mic}
use Rattle.parameters.specs.declared.Side.TheVariants.{AccessPoint}
use Rattle.layouts.specs.Mic.{mic_size, mic_octets}
use Rattle.parameters.specs.Parameters.{parameters_size, parameters_octets}
use Rattle.rsne.specs.Rsne.{rsne_size, pmkid_size, rsne_octets}
use Rattle.layouts.specs.Timeout.{timeout_size, timeout_octets}
use Rattle.writers.specs.declared.second.Chosen.{Chosen}
use Rattle.writers.specs.Header.{header_size, header_octets}

-- transaction 2, status 0; PASN Parameters of control 2, format 0, the group and the key
unfoldable pub second_octets : Chosen → List ℕ → List ℕ → List ℕ
second_octets chosen pmkids key =
    header_octets chosen.algorithm 2 0
    ++ rsne_octets chosen.cipher chosen.akm pmkids
    ++ timeout_octets chosen.lifetime
    ++ parameters_octets AccessPoint (record { comeback = None; format = 0; offer = Some (chosen.group, key) })
    ++ mic_octets chosen.mic

-- the octets of one with p octets of PMKIDs, k of a key and m of a MIC
abbrev pub second_size : ℕ → ℕ → ℕ → ℕ
second_size p k m = header_size + (rsne_size + p) + timeout_size + (parameters_size + k) + (mic_size + m)

-- the longest one: with a PMKID, and the longest key and MIC of the tables
abbrev pub longest_second : ℕ
longest_second = second_size pmkid_size longest_key longest_mic

-- p octets of PMKIDs and k of a key fit their elements, and all of it a buffer of n
pub record SecondFits (chosen : Chosen) (p k n : ℕ) : Type 0 where
  pub pmkids : p < 230
  pub key : k < 250
  pub mic : chosen.mic < 256
  pub room : second_size p k chosen.mic ≤ n
