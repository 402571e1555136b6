use Rattle.peers.proofs.Promised.{nobody}
use Rattle.peers.proofs.Table.empty.Goals as goal

pub returns : goal.returns
returns c = nobody _ c.vacant.ensures
