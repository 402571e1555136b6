use Rattle.std.proofs.Common.{sym, ◌∙◌, rules}
use Rattle.state.proofs.Stores.{stores}
use Rattle.state.proofs.StatePlaces.store.Goals as goal

pub returns : goal.returns
returns c =
    let told = c.put.ensures in
    stores _ (search rules) _ c.requires (sym told.wrote.tells) told.wrote ∙ rw told.reads
