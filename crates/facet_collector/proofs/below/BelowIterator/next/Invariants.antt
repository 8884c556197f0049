use Rattle.std.proofs.Common.{◌≡◌, length}
use Rattle.facet_collector.specs.Entries.{below}
use Rattle.facet_collector.proofs.below.BelowIterator.next.Given as goal

abbrev pub invariant-loop-entry : goal.invariant-loop-entry
invariant-loop-entry l = below l.self-inside.facet.now l.self-inside.left.now ≡ l.fn.self

abbrev pub decreases-loop-entry : goal.decreases-loop-entry
decreases-loop-entry l = length l.self-inside.left.now
