use Rattle.std.proofs.Common.{◌≤◌, length, arith}
use Rattle.std.proofs.lemmas.Result.{err_from_is_err_and}
use Rattle.collector.specs.Collecting.{block}
use Rattle.collector.proofs.Gathered.{front_more, front_stops, front_whole, one_doc, block_length}
use Rattle.collector.proofs.collector.Collector.collect_block.Goals as goal

pub returns-in_err-collect : goal.returns-in_err-collect
returns-in_err-collect g c n o =
    let p = err_from_is_err_and c.from_residual.result c.from_residual.ensures.1 in
    let h = c.loop-doc.invariant n o in
    let ds = c.args.docs.now in
    let i = c.loop-doc.doc-index in
    rw (p.1, p.2)
    (front_stops _ _ _ _ _ _ _ _ _ _ (front_more _ _ _ _ _ (block ds) i _ _ 1 _ _ _ (one_doc ds i (omega arith)) h (c.in_err-collect.ensures.collects n h.still)))

pub loop-doc-preserved : goal.loop-doc-preserved
loop-doc-preserved g c n o =
    let h = c.loop-doc.invariant n o in
    let ds = c.args.docs.now in
    let i = c.loop-doc.doc-index in
    front_more _ _ _ _ _ (block ds) i _ _ 1 _ _ _ (one_doc ds i (omega arith)) h (c.in_ok-collect.ensures.collects n h.still)

pub returns : goal.returns
returns g c n o =
    let ds = c.args.docs.now in
    let l : length (block ds) ≤ c.loop-doc.doc-index = omega (arith, block_length ds) in
    front_whole _ _ _ _ _ _ _ _ _ l (c.loop-doc.invariant n o)
