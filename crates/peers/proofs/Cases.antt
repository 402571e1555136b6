-- Worked examples.
use Prim.Native.Nat.{ℕ, zero, suc}
use mathlib.Core.Path.{◌≡◌, refl}
use mathlib.Core.Bool.{true, false}
use mathlib.Core.List.{List, [], ◌∷◌}
use Rattle.std.specs.Prelude.{None, Some}
use lib.ListN.{replicate}
use Rattle.units.specs.declared.Tu.{Tu}
use Rattle.peers.specs.declared.Phase.{Phase}
use Rattle.peers.specs.declared.Phase.TheVariants.{Waiting, Installed}
use Rattle.peers.specs.declared.Peer.{Peer}
use Rattle.peers.specs.declared.Table.{Table}
use Rattle.peers.specs.View.{shows, others, full, vacant_peer}

abbrev tu : ℕ → Tu
tu n = record { 0 = n }

abbrev address : ℕ → List ℕ
address k = 2 ∷ 0 ∷ 0 ∷ 0 ∷ 0 ∷ k ∷ []

abbrev peer : ℕ → Phase → Peer
peer k phase = record {
  address = address k;
  agreed = record { cipher = 4; akm = 21; cached = false; lifetime = record { 0 = 60 } };
  pmkid = replicate 16 0;
  phase = phase;
}

abbrev table : List Peer → Table
table ps = record { peers = ps; latest = tu 0 }

-- An address whose first record has expired shows the one after it.
abbrev two : Table
two = table (peer 1 (Waiting (tu 10)) ∷ peer 2 (Installed (tu 30)) ∷ peer 1 (Installed (tu 20)) ∷ [])

pub first_shown : shows two (tu 9) (address 1) ≡ Some (peer 1 (Waiting (tu 10)))
unfolding shows
first_shown = refl

pub later_shown : shows two (tu 10) (address 1) ≡ Some (peer 1 (Installed (tu 20)))
unfolding shows
later_shown = refl

pub none_shown : shows two (tu 20) (address 1) ≡ None
unfolding shows
none_shown = refl

pub one_other : others two (tu 9) (address 1 ∷ []) ≡ 1
unfolding others
one_other = refl

-- a vacant place shows no record, not of its own octets either
pub vacant_shown : shows (table (replicate 16 vacant_peer)) (tu 0) (replicate 6 0) ≡ None
unfolding shows
vacant_shown = refl

-- so many live records, of as many addresses from 0 on
abbrev crowd : ℕ → List Peer
crowd zero = []
crowd (suc k) = peer k (Waiting (tu 10)) ∷ crowd k

pub full_for_another : full (table (crowd 16)) (tu 9) (address 16) ≡ true
unfolding full shows others
full_for_another = refl

pub room_for_each : full (table (crowd 16)) (tu 9) (address 15) ≡ false
unfolding full shows others
room_for_each = refl

pub room_beside_15 : full (table (vacant_peer ∷ crowd 15)) (tu 9) (address 16) ≡ false
unfolding full shows others
room_beside_15 = refl

-- an expired record's place is free
pub room_for_an_expired_one : full (table (peer 15 (Installed (tu 9)) ∷ crowd 15)) (tu 9) (address 16) ≡ false
unfolding full shows others
room_for_an_expired_one = refl
