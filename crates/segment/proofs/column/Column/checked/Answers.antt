use Rattle.segment.proofs.Sounds.{terms_within, rows_within}
use Rattle.segment.proofs.column.Column.checked.Goals as goal

pub invariant_of-result : goal.invariant_of-result
invariant_of-result c =
    let t = c.args.tables in
    record { within = terms_within t.term_bytes.now t.term_ends.now t.row_ends.now t.ordinals.now c.requires }

pub invariant_of-result-2 : goal.invariant_of-result-2
invariant_of-result-2 c =
    let t = c.args.tables in
    record { within = rows_within t.term_bytes.now t.term_ends.now t.row_ends.now t.ordinals.now c.requires }
