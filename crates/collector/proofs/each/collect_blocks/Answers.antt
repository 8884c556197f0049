use Rattle.std.proofs.Common.{◌≡◌, [], ◌++◌, length, Ok, refl, sym, ap, ◌∙◌, rules}
use Rattle.std.proofs.lemmas.List.{append_assoc}
use Rattle.std.proofs.lemmas.Result.{err_from_is_err_and}
use Rattle.std.specs.Result.{result_map_both}
use Rattle.collector.specs.Collecting.{block}
use Rattle.collector.specs.Collections.{collection}
use Rattle.collector.specs.Contents.{contents}
use Rattle.collector.proofs.Gathered.{block_more, block_stops, block_whole, collection_ok, collection_err}
use Rattle.collector.proofs.Joined.{answer_joined, answer_any_scores}
use Rattle.collector.proofs.each.collect_blocks.Goals as goal

pub loop-block-init : goal.loop-block-init
loop-block-init g c = (search rules, [], search rules, record { answer = refl; holds = refl; still = c.in_ok-child.ensures.1 })

pub loop-block-preserved : goal.loop-block-preserved
loop-block-preserved g c =
    let (size, front, is, h) = c.loop-block.invariant in
    let ds = c.in-Some.block.now in
    let next : c.loop-block.block-iterator.rest.now ≡ ds ++ c.next.new.self.rest.now = search rules in
    (search rules, front ++ ds, is ∙ ap (λ l. front ++ l) next ∙ sym (append_assoc front ds _), block_more _ _ _ _ _ front _ _ ds _ _ h (c.in_ok-collect_block.ensures _ h.still))

pub returns-in_err-collect_block : goal.returns-in_err-collect_block
returns-in_err-collect_block g c =
    let (size, front, is, h) = c.loop-block.invariant in
    let ds = c.in-Some.block.now in
    let next : c.loop-block.block-iterator.rest.now ≡ ds ++ c.next.new.self.rest.now = search rules in
    let m = g.C.Collector.meaning c.args.collector.now in
    let s = contents c.args.segment.now in
    let open' = c.in_ok-child.ensures in
    let p = err_from_is_err_and c.from_residual-in_err-collect_block.result c.from_residual-in_err-collect_block.ensures.1 in
    let all = block_stops _ _ _ _ _ (front ++ ds) _ _ c.args.docs.now _ _ (is ∙ ap (λ l. front ++ l) next ∙ sym (append_assoc front ds _)) (block_more _ _ _ _ _ front _ _ ds _ _ h (c.in_err-collect_block.ensures _ h.still)) in
    let e : result_map_both g.C.Collector.value (λ e. e) c.from_residual-in_err-collect_block.result ≡ collection m c.args.ordinal s (block c.args.docs.now) = rw (p.1, p.2) (collection_err _ _ _ _ _ _ _ _ open'.0 open'.2 _ all) in
    let laws = g.met.C.Collector.lawful _ in
    record { answer = e; joined = answer_joined laws _ _ _ _ e; unscored = answer_any_scores laws _ _ _ _ e }

pub returns : goal.returns
returns g c =
    let (size, front, is, h) = c.loop-block.invariant in
    let open' = c.in_ok-child.ensures in
    let left : length c.loop-block.block-iterator.rest.now ≡ 0 = search rules in
    let e = ap Ok (c.harvest.ensures _ h.still) ∙ collection_ok _ _ _ _ _ _ _ _ open'.0 open'.2 (block_whole _ _ _ _ _ front _ _ c.args.docs.now _ is left h) in
    let laws = g.met.C.Collector.lawful _ in
    record { answer = e; joined = answer_joined laws _ _ _ _ e; unscored = answer_any_scores laws _ _ _ _ e }
