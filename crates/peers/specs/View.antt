-- What a table shows at a clock reading: which records are live, and never where they stand.
use Rattle.std.specs.Prelude.{ℕ, Bool, false, ◌&&◌, not, List, [], ◌∷◌, eqb, ltb, get_or, set, replicate, Option, is_none}
use Rattle.std.specs.List.{find, count_by, list_all}
use Rattle.octets.specs.Equality.{same_octets}
use Rattle.units.specs.declared.Tu.{Tu}
use Rattle.peers.specs.declared.Agreed.{Agreed}
use Rattle.peers.specs.declared.Phase.{Phase}
use Rattle.peers.specs.declared.Phase.TheVariants.{Waiting, Installed}
use Rattle.peers.specs.declared.Peer.{Peer}
use Rattle.peers.specs.declared.Table.{Table}

-- a waiting record's deadline, an installed one's end
abbrev pub until : Phase → Tu
until (Waiting deadline) = deadline
until (Installed end) = end

-- A record is live while its deadline or end is later than now.
abbrev pub live : Peer → Tu → Bool
live p n = ltb n.0 (until p.phase).0

abbrev pub is_of : Peer → List ℕ → Bool
is_of p a = same_octets p.address a

-- a live record of the address
abbrev pub own : Tu → List ℕ → Peer → Bool
own n a p = is_of p a && live p n

-- a live record of an address other than these
abbrev pub other : Tu → List (List ℕ) → Peer → Bool
other n these p = live p n && list_all (λ a. not (is_of p a)) these

-- The live record of an address, or none; were there two, the first.
unfoldable pub shows : Table → Tu → List ℕ → Option Peer
shows t n a = find (own n a) t.peers

-- how many live records there are of addresses other than these
unfoldable pub others : Table → Tu → List (List ℕ) → ℕ
others t n these = count_by (other n these) t.peers

-- No live record of this address, and 16 live records of others.
unfoldable pub full : Table → Tu → List ℕ → Bool
full t n a = is_none (shows t n a) && eqb (others t n (a ∷ [])) 16

abbrev pub nothing_agreed : Agreed
nothing_agreed = record { cipher = 0; akm = 0; cached = false; lifetime = record { 0 = 0 } }

-- a table with another latest reading
abbrev pub dated : Table → Tu → Table
dated t n = record { peers = t.peers; latest = n }

-- the record that is live at no reading
abbrev pub vacant_peer : Peer
vacant_peer = record { address = replicate 6 0; agreed = nothing_agreed; pmkid = replicate 16 0; phase = Waiting (record { 0 = 0 }) }

-- What the rules for an array read past its end. Written so, an element that the code reads is this very term.
abbrev pub no_peer : Peer
no_peer = record { address = []; agreed = nothing_agreed; pmkid = []; phase = Waiting (record { 0 = 0 }) }

-- the record in the i-th place
abbrev pub peer_at : Table → ℕ → Peer
peer_at t i = get_or t.peers i no_peer

-- a table with another i-th record
abbrev pub stored : Table → ℕ → Peer → Table
stored t i p = record { peers = set t.peers i p; latest = t.latest }
