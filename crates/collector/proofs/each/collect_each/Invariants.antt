use Rattle.std.proofs.Common.{take, Ok}
use Rattle.collector.specs.Collecting.{Collects}
use Rattle.collector.specs.Contents.{contents}
use Rattle.collector.proofs.each.collect_each.Given as goal

-- the documents before have been collected
abbrev pub invariant-loop-doc : goal.invariant-loop-doc
invariant-loop-doc g l =
    Collects (g.C.Collector.meaning l.collector) (g.C.Collector.opened l.collector l.ordinal l.segment) (g.C.Collector.held l.collector l.segment) l.ordinal (contents l.segment) (take l.doc-index l.docs) l.initial.child l.child (Ok tt)
