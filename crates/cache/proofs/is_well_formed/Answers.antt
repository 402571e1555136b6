use Rattle.std.proofs.Common.{rules, arith}
use Rattle.std.proofs.lemmas.Grind.{common_steps}
use Rattle.std.proofs.lemmas.Iterator.Search.{all_from_yields_List}
use Rattle.cache.specs.File.{is_record}
use Rattle.cache.proofs.File.{well_formed_by}
use Rattle.cache.proofs.Chunks.{YieldsList-from_chunks_exact}
use Rattle.cache.proofs.is_well_formed.Goals as goal

pub returns-then-file-le-MOST_RECORDS : goal.returns-then-file-le-MOST_RECORDS
returns-then-file-le-MOST_RECORDS c =
    let each = all_from_yields_List (is_record 0x31 25) _ _ _ c.all.ensures.ran (YieldsList-from_chunks_exact 28 c.args.file.now c.chunks_exact.ensures.rest c.chunks_exact.ensures.size (omega arith)) (λ x b q k. search rules) in
    let by = well_formed_by c.args.file.now in
    grind (arith, common_steps)

pub returns-else-file-le-MOST_RECORDS : goal.returns-else-file-le-MOST_RECORDS
returns-else-file-le-MOST_RECORDS c =
    let by = well_formed_by c.args.file.now in
    grind (arith, common_steps)
