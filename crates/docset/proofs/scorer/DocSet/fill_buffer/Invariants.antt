use Rattle.std.proofs.Common.{◌≡◌, ◌≤◌, ◌++◌, length, take, drop}
use Rattle.docset.specs.Pairs.{docs_of, first_doc}
use Rattle.docset.proofs.scorer.DocSet.fill_buffer.Given as goal

abbrev pub invariant-loop-i : goal.invariant-loop-i
invariant-loop-i g l =
    let all = g.Self.DocSet.coming l.initial.self in
    let left = g.Self.DocSet.coming l.self in
    (l.i ≤ length all) × (l.doc ≡ first_doc left) × (left ≡ drop l.i all) × (l.buffer ≡ docs_of (take l.i all) ++ drop l.i l.initial.buffer)
