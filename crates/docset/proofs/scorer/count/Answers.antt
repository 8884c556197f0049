use Rattle.std.proofs.Common.{rules}
use Rattle.docset.proofs.Rising.{rising_length, rising_end}
use Rattle.docset.proofs.scorer.count.Goals as goal

pub loop-doc-init : goal.loop-doc-init
loop-doc-init g c = let rising = g.S.DocSet.rising in search (rules, rising_length)

pub returns : goal.returns
returns g c = let rising = g.S.DocSet.rising in search (rules, rising_end)
