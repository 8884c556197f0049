use Rattle.std.proofs.Common.{◌≡◌, Ok, ap, ◌∙◌, arith}
use lib.Ieee.{nan}
use Rattle.std.proofs.lemmas.Result.{err_from_is_err_and}
use Rattle.std.specs.Result.{result_map_both}
use Rattle.collector.specs.Collections.{collection}
use Rattle.collector.specs.Contents.{contents}
use Rattle.collector.proofs.Gathered.{front_more, front_stops, front_whole, one_pair, collection_ok, collection_err}
use Rattle.collector.proofs.Alone.{alone}
use Rattle.collector.proofs.Joined.{answer_joined}
use Rattle.collector.proofs.each.collect_each.Goals as goal

pub returns-in_err-collect : goal.returns-in_err-collect
returns-in_err-collect g c =
    let m = g.C.Collector.meaning c.args.collector.now in
    let s = contents c.args.segment.now in
    let ps = c.args.docs.now in
    let i = c.loop-doc.doc-index in
    let h = c.loop-doc.invariant in
    let open' = c.in_ok-child.ensures in
    let p = err_from_is_err_and c.from_residual-in_err-collect.result c.from_residual-in_err-collect.ensures.1 in
    let all = front_stops _ _ _ _ _ ps _ _ _ _ (front_more _ _ _ _ _ ps i _ _ 1 _ _ _ (one_pair ps i (0, nan) (omega arith)) h (c.in_err-collect.ensures.collects _ h.still)) in
    let e : result_map_both g.C.Collector.value (λ e. e) c.from_residual-in_err-collect.result ≡ collection m c.args.ordinal s ps = rw (p.1, p.2) (collection_err _ _ _ _ _ _ _ _ open'.0 open'.2 _ all) in
    let j = answer_joined (g.met.C.Collector.lawful _) _ _ _ _ e in
    record { answer = e; joined = j; parts = alone g.met.C.Collector.parted _ _ _ _ _ j }

pub loop-doc-preserved : goal.loop-doc-preserved
loop-doc-preserved g c =
    let h = c.loop-doc.invariant in
    let ps = c.args.docs.now in
    let i = c.loop-doc.doc-index in
    front_more _ _ _ _ _ ps i _ _ 1 _ _ _ (one_pair ps i (0, nan) (omega arith)) h (c.in_ok-collect.ensures.collects _ h.still)

pub returns : goal.returns
returns g c =
    let h = c.loop-doc.invariant in
    let open' = c.in_ok-child.ensures in
    let e = ap Ok (c.harvest.ensures _ h.still) ∙ collection_ok _ _ _ _ _ _ _ _ open'.0 open'.2 (front_whole _ _ _ _ _ c.args.docs.now c.loop-doc.doc-index _ _ (omega arith) h) in
    let j = answer_joined (g.met.C.Collector.lawful _) _ _ _ _ e in
    record { answer = e; joined = j; parts = alone g.met.C.Collector.parted _ _ _ _ _ j }
