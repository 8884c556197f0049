use Rattle.std.proofs.Common.{◌≡◌, length, drop}
use Rattle.docset.specs.Pairs.{docs_of, first_doc_of}
use Rattle.docset.proofs.scorer.doc_at.Given as goal

abbrev pub invariant-loop-before : goal.invariant-loop-before
invariant-loop-before g l =
    first_doc_of (drop l.before (docs_of (g.S.DocSet.coming l.scorer))) ≡ first_doc_of (drop l.place (docs_of (g.S.DocSet.coming l.initial.scorer)))

abbrev pub decreases-loop-before : goal.decreases-loop-before
decreases-loop-before g l = length (g.S.DocSet.coming l.scorer)
