-- Each edge, by computing both sides.
use mathlib.Core.Path.{refl}
use Rattle.demands.specs.Edges.{edges, EdgesHold}

pub edges_hold : EdgesHold
unfolding edges
edges_hold = (refl, (refl, (refl, (refl, (refl, (refl, (refl, (refl, (refl, (refl, (refl, (refl, (refl, (refl, (refl, (refl, tt))))))))))))))))
