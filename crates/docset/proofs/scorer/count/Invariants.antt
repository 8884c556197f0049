use Rattle.std.proofs.Common.{◌≡◌, ◌+◌, ◌≤◌, length}
use Rattle.docset.specs.Pairs.{first_doc}
use Rattle.docset.proofs.scorer.count.Given as goal

abbrev pub invariant-loop-doc : goal.invariant-loop-doc
invariant-loop-doc g l =
    let all = g.S.DocSet.coming l.initial.scorer in
    let left = g.S.DocSet.coming l.scorer in
    (l.doc ≡ first_doc left) × (l.count + length left ≡ length all) × (length all ≤ 2147483647)

abbrev pub decreases-loop-doc : goal.decreases-loop-doc
decreases-loop-doc g l = length (g.S.DocSet.coming l.scorer)
