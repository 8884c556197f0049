use Rattle.facet.specs.Text.{printed, shown_behind}
use Rattle.facet.proofs.Bytes.{Filled}
use Rattle.facet.proofs.encoded.Facet.print.Given as goal

abbrev pub invariant-loop-at : goal.invariant-loop-at
invariant-loop-at l =
    Filled (printed l.self) l.initial.buffer l.buffer l.at-iterator.count (shown_behind l.at-iterator.iter.first l.at-iterator.iter.left.now)
