use Rattle.std.proofs.Common.{◌≡◌, ◌++◌, Ok}
use Rattle.collector.specs.Collecting.{Collects, block}
use Rattle.collector.specs.Contents.{contents}
use Rattle.collector.proofs.each.collect_blocks.Given as goal

-- the documents before have been collected
abbrev pub invariant-loop-block : goal.invariant-loop-block
invariant-loop-block g l =
    (l.block-iterator.size ≡ 64) × (front : _) × (l.docs ≡ front ++ l.block-iterator.rest.now) × Collects (g.C.Collector.meaning l.collector) (g.C.Collector.opened l.collector l.ordinal l.segment) (g.C.Collector.held l.collector l.segment) l.ordinal (contents l.segment) (block front) l.initial.child l.child (Ok tt)
