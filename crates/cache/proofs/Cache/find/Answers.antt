use Rattle.std.proofs.Common.{rules, arith}
use Rattle.std.proofs.lemmas.Iterator.Search.{find_from_yields_List}
use Rattle.cache.specs.File.{cached_of}
use Rattle.cache.specs.Search.{matches, found_of}
use Rattle.cache.proofs.File.{records_by}
use Rattle.cache.proofs.Search.{find-map}
use Rattle.cache.proofs.Chunks.{YieldsList-from_chunks_exact}
use Rattle.cache.proofs.Cache.find.Goals as goal

pub returns : goal.returns
unfolding found_of
returns c =
    let each = find_from_yields_List (λ r. matches c.args.pmkid.now c.args.akm c.args.reading (cached_of r)) _ _ c.find.result c.find.ensures.ran (YieldsList-from_chunks_exact 28 c.args.self.octets.now c.chunks_exact.ensures.rest c.chunks_exact.ensures.size (omega arith)) (λ x b q k. search rules) in
    rw (records_by c.args.self.octets.now c.args.self.formed, find-map (matches c.args.pmkid.now c.args.akm c.args.reading) cached_of _, ← each) (search rules)
