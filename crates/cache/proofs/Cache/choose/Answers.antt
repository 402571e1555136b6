use Rattle.std.proofs.Common.{◌≡◌, arith, of_calls, rules, sym, ◌∙◌}
use Rattle.std.proofs.lemmas.List.{length_push}
use Rattle.cache.proofs.Search.{tried_none, tried_stops, tried_more, tried_all}
use Rattle.cache.proofs.Chunks.{YieldsList-from_chunks_exact, numbered_turn, numbered_end}
use Rattle.cache.proofs.Cache.choose.Goals as goal

pub loop-k-init : goal.loop-k-init
loop-k-init c = (search of_calls, search of_calls, tried_none _ _ _ _)

pub returns-in-Some-find : goal.returns-in-Some-find
returns-in-Some-find c =
    let t = numbered_turn (YieldsList-from_chunks_exact 16 c.args.pmkids.now (cc) (cc) (omega arith)) (cc) c.loop-k.yielded _ c.loop-k.yielded_by _ _ c.in-Some.k c.in-Some.pmkid c.in-Some.is c.next.ensures.steps in
    let same : c.unwrap-pmkid.result ≡ c.in-Some.pmkid.now = search rules in
    rw t.counts (sym (tried_stops _ _ _ _ c.loop-k.invariant.2 c.in-Some.pmkid.now t.within t.is (sym (rw same at c.find.ensures) ∙ c.in-Some-find.is)))

pub loop-k-preserved : goal.loop-k-preserved
loop-k-preserved c =
    let t = numbered_turn (YieldsList-from_chunks_exact 16 c.args.pmkids.now (cc) (cc) (omega arith)) (cc) c.loop-k.yielded _ c.loop-k.yielded_by _ _ c.in-Some.k c.in-Some.pmkid c.in-Some.is c.next.ensures.steps in
    let same : c.unwrap-pmkid.result ≡ c.in-Some.pmkid.now = search rules in
    (search of_calls, search of_calls, rw length_push (tried_more _ _ _ _ c.loop-k.invariant.2 c.in-Some.pmkid.now t.within t.is (sym (rw same at c.find.ensures) ∙ c.in_default.is)))

pub returns : goal.returns
returns c =
    let t = numbered_end (YieldsList-from_chunks_exact 16 c.args.pmkids.now (cc) (cc) (omega arith)) (cc) c.loop-k.yielded _ c.loop-k.yielded_by _ _ c.in-None.is c.next.ensures.steps in
    sym (tried_all _ _ _ _ c.loop-k.invariant.2 (omega arith))
