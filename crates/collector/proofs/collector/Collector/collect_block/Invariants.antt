use Rattle.std.proofs.Common.{ℕ, take, Ok}
use Rattle.collector.specs.Collecting.{Collects, block}
use Rattle.collector.specs.Contents.{contents}
use Rattle.collector.proofs.collector.Collector.collect_block.Given as goal

-- the documents before have been collected
abbrev pub invariant-loop-doc : goal.invariant-loop-doc
invariant-loop-doc g l =
    (n : ℕ) → g.Self.Collector.opened l.self n l.segment l.initial.child → Collects (g.Self.Collector.meaning l.self) (g.Self.Collector.opened l.self n l.segment) (g.Self.Collector.held l.self l.segment) n (contents l.segment) (take l.doc-index (block l.docs)) l.initial.child l.child (Ok tt)
