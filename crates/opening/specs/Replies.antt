-- What a second frame needs, so that it fits its elements and the reply buffer.
use Rattle.std.specs.Prelude.{ℕ, ◌≤◌, true, List, ◌≡◌, length}
use Rattle.suites.specs.Tables.{longest_key, longest_mic, is_key_of}
use Rattle.rsne.specs.Rsne.{pmkid_size}
use Rattle.rules.specs.declared.Passed.{Passed}
use Rattle.rules.specs.OnePeer.{listed, smallest_buffer}

-- the second frame of what passed fits its elements and a buffer of n octets
pub record ReplyFits (passed : Passed) (key : List ℕ) (n : ℕ) : Type 0 where
  pub pmkids : length (listed passed) ≤ pmkid_size
  pub mic : passed.mic ≤ longest_mic
  pub keys : is_key_of passed.group key ≡ true → length key ≤ longest_key
  pub room : smallest_buffer ≤ n
