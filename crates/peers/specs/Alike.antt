-- Tables are compared by their latest reading and by what they show, never by the place of a record.
use Rattle.std.specs.Prelude.{ℕ, ◌≤◌, ◌≡◌, List}
use Rattle.units.specs.declared.Tu.{Tu}
use Rattle.peers.specs.declared.Table.{Table}
use Rattle.peers.specs.View.{shows, others}

-- at every reading from n on
pub record Alike (n : Tu) (t u : Table) : Type 0 where
  pub shown : (m : Tu) → n.0 ≤ m.0 → (a : List ℕ) → shows t m a ≡ shows u m a
  pub counted : (m : Tu) → n.0 ≤ m.0 → (these : List (List ℕ)) → others t m these ≡ others u m these
  pub latest : t.latest ≡ u.latest
