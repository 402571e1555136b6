-- What the operations on a table promise, by what the tables show.
use Rattle.std.specs.Prelude.{ℕ, ◌+◌, ◌<◌, ◌≤◌, ◌≡◌, Bool, true, false, List, ◌∷◌, if◌then◌else◌, Option, None, Some}
use Rattle.octets.specs.Equality.{same_octets}
use Rattle.units.specs.declared.Tu.{Tu}
use Rattle.peers.specs.declared.Peer.{Peer}
use Rattle.peers.specs.declared.Table.{Table}
use Rattle.peers.specs.declared.Found.{Found}
use Rattle.peers.specs.declared.Found.TheVariants.{At, Free, Full}
use Rattle.peers.specs.View.{live, is_of, other, shows, others, full, peer_at}

-- no record, latest reading 0
pub record Nobody (r : Table) : Type 0 where
  pub shown : (n : Tu) (a : List ℕ) → shows r n a ≡ None
  pub counted : (n : Tu) (these : List (List ℕ)) → others r n these ≡ 0
  pub latest : r.latest ≡ record { 0 = 0 }

-- the place that was found is one of the sixteen
abbrev pub IsPlace : Found → Type 0
IsPlace (At i) = i < 16
IsPlace Free = Unit {0}
IsPlace Full = Unit {0}

-- the record at the place that was found
abbrev pub shown_at : Table → Found → Option Peer
shown_at t (At i) = Some (peer_at t i)
shown_at t Free = None
shown_at t Full = None

abbrev pub is_full : Found → Bool
is_full (At i) = false
is_full Free = false
is_full Full = true

-- the record that is shown stands at the place found, and the table is full or not, as told
pub record Finds (t : Table) (a : List ℕ) (n : Tu) (found : Found) : Type 0 where
  pub place : IsPlace found
  pub shown : shows t n a ≡ shown_at t found
  pub filled : full t n a ≡ is_full found

-- a record, while it is live
abbrev pub while_live : Peer → Tu → Option Peer
while_live p m = if live p m then Some p else None

-- A table that is full at its latest reading is kept. In any other, p is the one record of its address from that reading on, and every other address
-- has what it had.
pub record Puts (t : Table) (p : Peer) (r : Table) : Type 0 where
  pub kept : full t t.latest p.address ≡ true → r ≡ t
  pub shown : full t t.latest p.address ≡ false → (m : Tu) → t.latest.0 ≤ m.0 → (b : List ℕ)
      → shows r m b ≡ (if is_of p b then while_live p m else shows t m b)
  pub counted : full t t.latest p.address ≡ false → (m : Tu) → t.latest.0 ≤ m.0 → (these : List (List ℕ))
      → others r m these ≡ others t m (p.address ∷ these) + (if other m these p then 1 else 0)
  pub latest : r.latest ≡ t.latest

-- The address has no record, and every other has what it had.
pub record Drops (t : Table) (a : List ℕ) (r : Table) : Type 0 where
  pub shown : (m : Tu) (b : List ℕ) → shows r m b ≡ (if same_octets a b then None else shows t m b)
  pub counted : (m : Tu) (these : List (List ℕ)) → others r m these ≡ others t m (a ∷ these)
  pub latest : r.latest ≡ t.latest
