use Rattle.std.proofs.Common.{length, Some, None, sym, ap, ◌∙◌, add-one, arith}
use Rattle.std.proofs.lemmas.List.{at_drop_all}
use Rattle.std.proofs.lemmas.Result.{err_from_is_err_and}
use Rattle.std.specs.Result.{result_err}
use Rattle.segment.specs.Columns.{falls_from}
use Rattle.segment.specs.Items.{start_of, items}
use Rattle.segment.proofs.Spans.{length_items, row_ends, falls_at}
use Rattle.segment.proofs.rows.check_rises.Goals as goal

pub check_row-requires : goal.check_row-requires
check_row-requires c =
    let i = c.loop-i.i in
    let ends = c.args.rows.ends.now in
    let (lt, up, within) = c.args.rows.within i (omega arith) in
    let r = ap length c.at.ensures in
    let j = row_ends ends c.args.rows.all.now i (lt, up, within) in
    let z = ap (start_of ends) (add-one i) in
    omega (arith, c.start_of.ensures, c.ranges.rows)

pub returns-in_err-check_row : goal.returns-in_err-check_row
returns-in_err-check_row c =
    let p = err_from_is_err_and c.from_residual.result c.from_residual.ensures.1 in
    let rows = c.args.rows in
    ap result_err (p.1) ∙ ap Some p.2
    ∙ sym (c.loop-i.invariant ∙ falls_at rows.ends.now rows.all.now c.loop-i.i _ _ (Some c.in_err-check_row.field-0.0) (rows.within c.loop-i.i (omega arith)) c.at.ensures c.start_of.ensures c.in_err-check_row.ensures)

pub loop-i-preserved : goal.loop-i-preserved
loop-i-preserved c =
    let rows = c.args.rows in
    c.loop-i.invariant ∙ falls_at rows.ends.now rows.all.now c.loop-i.i _ _ None (rows.within c.loop-i.i (omega arith)) c.at.ensures c.start_of.ensures c.in_ok-check_row.ensures

pub returns : goal.returns
returns c =
    let ends = c.args.rows.ends.now in
    let e = length_items 0 ends c.args.rows.all.now in
    sym (c.loop-i.invariant ∙ at_drop_all (falls_from _) (items ends c.args.rows.all.now) c.loop-i.i (omega (arith, c.loop-i-test.false)))
