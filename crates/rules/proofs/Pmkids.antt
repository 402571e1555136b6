-- The PMKID that was chosen is a part of the frame's list.
use mathlib.Core.Path.{◌≡◌}
use mathlib.Core.List.{List, []}
use Prim.Native.Nat.{ℕ, ◌+◌, ◌*◌, ◌/◌, ◌≤◌}
use native.Mathlib.Omega.{arith}
use lib.ListN.{length, take, drop, get_or}
use Rattle.octets.specs.Pieces.{pieces}
use Rattle.octets.proofs.Pieces.{length_pieces, piece_at}
use Rattle.units.specs.declared.Tu.{Tu}
use Rattle.std.specs.Prelude.{Some}
use Rattle.cache.specs.File.{Cached}
use Rattle.cache.specs.Search.{choice_of}
use Rattle.cache.proofs.Laws.{chosen}

module _ (cs : List Cached) (s : List ℕ) (akm : ℕ) (reading : Tu) {k : ℕ} {end : Tu}
    (c : choice_of cs (pieces 16 (length s / 16) s) akm reading ≡ Some (record { pmkid = k; end = end })) where
  pub in_list : 16 * k + 16 ≤ length s
  in_list = omega (arith, (chosen cs akm reading (pieces 16 (length s / 16) s) c).listed, length_pieces 16 (length s / 16) s)

  pub that_part : get_or (pieces 16 (length s / 16) s) k [] ≡ take 16 (drop (16 * k) s)
  that_part = piece_at 16 (length s / 16) s k (omega (arith, (chosen cs akm reading (pieces 16 (length s / 16) s) c).listed, length_pieces 16 (length s / 16) s))
