-- A header, read back.
use mathlib.Core.Path.{◌≡◌, refl}
use mathlib.Core.List.{List, [], ◌++◌}
use Prim.Native.Nat.{ℕ, ◌^◌, ◌<◌, ◌≤◌}
use native.Mathlib.Omega.{arith}
use borrow.Author.Tests.{le-ltb}
use lib.ListN.{length}
use Rattle.octets.specs.Numbers.{octets}
use Rattle.octets.proofs.Numbers.{reads_back}
use Rattle.std.specs.Prelude.{Some}
use Rattle.elements.specs.Body.{body_of}
use Rattle.writers.specs.Header.{header_size, header_octets}

module _ (algorithm transaction status : ℕ) where
  pub length_header : length (header_octets algorithm transaction status) ≡ header_size
  unfolding header_octets octets
  length_header = refl

  module _ (a : algorithm < 2 ^ 16) (t : transaction < 2 ^ 16) (s : status < 2 ^ 16) where
    -- before other octets of a body
    pub header_reads_back : (rest : List ℕ) → length rest ≤ 1018
        → body_of (header_octets algorithm transaction status ++ rest) ≡ Some (record { algorithm = algorithm; transaction = transaction; status = status })
    unfolding body_of header_octets octets
    header_reads_back rest h =
        let all : List ℕ = header_octets algorithm transaction status ++ rest in
        rw (
          le-ltb (length all) 6 (omega arith),
          le-ltb 1024 (length all) (omega arith),
          reads_back 2 algorithm [] (octets 2 transaction ++ octets 2 status ++ rest) a,
          reads_back 2 transaction (octets 2 algorithm) (octets 2 status ++ rest) t,
          reads_back 2 status (octets 2 algorithm ++ octets 2 transaction) rest s,
        )

    -- alone
    pub refusal_reads_back : body_of (header_octets algorithm transaction status) ≡ Some (record { algorithm = algorithm; transaction = transaction; status = status })
    unfolding header_octets octets
    refusal_reads_back = header_reads_back [] (omega arith)
