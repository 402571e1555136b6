use Rattle.std.proofs.Common.{refl, ◌∙◌, rules}
use Rattle.state.proofs.Stores.{stores, blank}
use Rattle.state.proofs.StatePlaces.clear.Goals as goal

pub returns : goal.returns
returns c = stores _ (search rules) _ c.requires refl c.zero.ensures ∙ rw blank
