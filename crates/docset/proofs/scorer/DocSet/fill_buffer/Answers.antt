use Rattle.std.proofs.Common.{rules}
use Rattle.docset.proofs.Blocks.{one_left, block_rest, block_front, block_end}
use Rattle.docset.proofs.scorer.DocSet.fill_buffer.Goals as goal

pub returns-then-doc-eq-TERMINATED-clause-filled :
    goal.returns-then-doc-eq-TERMINATED-clause-filled
returns-then-doc-eq-TERMINATED-clause-filled g c =
    let rising = g.Self.DocSet.rising in search (rules, block_end)

pub loop-i-preserved : goal.loop-i-preserved
loop-i-preserved g c = search (rules, one_left, block_rest, block_front)
