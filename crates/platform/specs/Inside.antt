-- What the unit's own functions say to each other; a host needs none of it.
use Rattle.std.specs.Prelude.{ℕ, ◌≡◌, Bool, false, List}
use Rattle.peers.specs.declared.Table.{Table}
use Rattle.peers.specs.Promises.{Puts, Drops}
use Rattle.rules.specs.declared.Leaves.{Leaves}
use Rattle.rules.specs.OnePeer.{Left, same, gone, becomes}

-- the record that a call makes is of this address, and has a place
abbrev pub Seats : List ℕ → Bool → Left → Type 0
Seats address full same = Unit {0}
Seats address full gone = Unit {0}
Seats address full (becomes p) = (p.address ≡ address) × (full ≡ false)

-- what a frame leaves of an address's record is so in the table r that t became
abbrev pub Settled : Leaves → List ℕ → Table → Table → Type 0
Settled Leaves.Same address t r = r ≡ t
Settled Leaves.Gone address t r = Drops t address r
Settled (Leaves.Becomes p) address t r = Puts t p r
