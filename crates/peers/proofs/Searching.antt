-- A search of the places of a table.
use Prim.Native.Nat.{ℕ, suc, ◌+◌, ◌≤◌, ◌<◌}
use mathlib.Core.Path.{◌≡◌, refl, sym, ◌∙◌}
use mathlib.Core.Bool.{Bool, true, false, ◌&&◌, not, and-true, and-false}
use mathlib.Core.List.{List}
use Rattle.std.specs.Prelude.{None}
use native.Mathlib.Numerals.{add-one}
use native.Mathlib.Omega.{arith}
use lib.ListN.{length, get_or, drop, drop_of_length-le}
use lib.Seq.{drop-cons}
use Rattle.std.specs.List.{find, list_all}
use Rattle.octets.proofs.Search.{first_stops, first_goes, first_ends}
use Rattle.units.specs.declared.Tu.{Tu}
use Rattle.peers.specs.declared.Peer.{Peer}
use Rattle.peers.specs.declared.Table.{Table}
use Rattle.peers.specs.declared.Found.{Found}
use Rattle.peers.specs.declared.Found.TheVariants.{At}
use Rattle.peers.specs.View.{live, is_of, own, shows, no_peer}
use Rattle.peers.specs.Promises.{IsPlace, shown_at, is_full, Finds}
use Rattle.peers.proofs.Promised.{taken, full_taken}
use Rattle.peers.proofs.Laws.{full_shown}

-- no place before i has a live record of the address, and `free` tells whether one of them has no live record
pub record Searched (t : Table) (a : List ℕ) (n : Tu) (free : Bool) (i : ℕ) : Type 0 where
  pub places : length t.peers ≡ 16
  pub passed : find (own n a) t.peers ≡ find (own n a) (drop i t.peers)
  pub filled : list_all (taken n a) t.peers ≡ not free && list_all (taken n a) (drop i t.peers)

pub searched_none : (t : Table) (a : List ℕ) (n : Tu) → length t.peers ≡ 16 → Searched t a n false 0
searched_none t a n l = record { places = l; passed = refl; filled = refl }

module _ {t : Table} {a : List ℕ} {n : Tu} {free : Bool} {i : ℕ} (w : Searched t a n free i) where
  abbrev here : Peer
  here = get_or t.peers i no_peer

  module _ (h : i < 16) where
    pub searched_stops : live here n ≡ true → is_of here a ≡ true → Finds t a n (At i)
    unfolding shows
    searched_stops d e =
        let s = first_stops (own n a) t.peers i no_peer (omega (arith, w.places)) (rw (e, d)) w.passed in
        record { place = h; shown = s; filled = full_shown t n a s }

    -- a place that is not this address's
    goes : own n a here ≡ false → (after : Bool) → ((rest : Bool) → not free && (taken n a here && rest) ≡ not after && rest) → Searched t a n after (i + 1)
    goes e after k = record {
      places = w.places;
      passed = first_goes (own n a) t.peers i no_peer (omega (arith, w.places)) e w.passed;
      filled = w.filled ∙ rw (add-one i, drop-cons t.peers i no_peer (omega (arith, w.places))) (k (list_all (taken n a) (drop (suc i) t.peers)));
    }

    pub searched_taken : live here n ≡ true → is_of here a ≡ false → Searched t a n free (i + 1)
    searched_taken d e = goes (rw e) free (λ rest. rw (d, e))

    pub searched_free : live here n ≡ false → Searched t a n true (i + 1)
    searched_free d = goes (rw d (and-false (is_of here a))) true (λ rest. rw d (and-false (not free)))

  -- the answer at the end, by whether a place was free
  pub searched_all : {found : Found} → 16 ≤ i → shown_at t found ≡ None → is_full found ≡ not free → IsPlace found → Finds t a n found
  unfolding shows
  searched_all h none told place = record {
    place = place;
    shown = first_ends (own n a) t.peers i (omega (arith, w.places)) w.passed ∙ sym none;
    filled = full_taken n a t w.places
        ∙ w.filled
        ∙ rw (drop_of_length-le t.peers {i = i} (omega (arith, w.places))) (and-true (not free))
        ∙ sym told;
  }
