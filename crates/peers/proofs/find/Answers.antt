use Rattle.std.proofs.Common.{not, refl, sym, ap, ◌∙◌, arith}
use Rattle.peers.proofs.Searching.{searched_stops, searched_all}
use Rattle.peers.proofs.find.Goals as goal

pub returns-then-is_of : goal.returns-then-is_of
returns-then-is_of g c =
    searched_stops c.loop-i.invariant (omega arith) (sym c.is_live.ensures ∙ c.if-is_live.true) (sym c.is_of.ensures ∙ c.if-is_of.true)

pub returns-then-free : goal.returns-then-free
returns-then-free g c = searched_all c.loop-i.invariant (omega arith) refl (ap not (sym c.if-free.true)) tt

pub returns-else-free : goal.returns-else-free
returns-else-free g c = searched_all c.loop-i.invariant (omega arith) refl (ap not (sym c.if-free.false)) tt
