use Rattle.std.proofs.Common.{rules}
use Rattle.docset.proofs.Blocks.{at_block, past_block, no_block, shorter}
use Rattle.docset.proofs.scorer.doc_at.Goals as goal

pub returns-then-before-len : goal.returns-then-before-len
returns-then-before-len g c = search (rules, at_block)

pub returns-then-len-eq0 : goal.returns-then-len-eq0
returns-then-len-eq0 g c = search (rules, no_block)

pub loop-before-smaller : goal.loop-before-smaller
loop-before-smaller g c = search (rules, shorter)

pub loop-before-preserved : goal.loop-before-preserved
loop-before-preserved g c = search (rules, past_block)
