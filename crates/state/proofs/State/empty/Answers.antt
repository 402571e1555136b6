use Rattle.std.proofs.Common.{refl, rules}
use Rattle.peers.specs.View.{vacant_peer}
use Rattle.peers.proofs.Promised.{nobody}
use Rattle.state.proofs.Stores.{zeros}
use Rattle.state.proofs.State.empty.Goals as goal

pub returns : goal.returns
returns c = rw (zeros c.zero.ensures (search rules)) (nobody vacant_peer refl)
