use Rattle.std.proofs.Common.{◌≡◌, ℕ, ◌+◌, ◌-◌, ◌<◌, List, length, get_or, take, drop, Some, None, Err, Option, sym, ap, ◌∙◌, arith}
use Rattle.std.proofs.lemmas.List.{at_drop_more, at_drop_all, take_more}
use Rattle.std.proofs.lemmas.Result.{err_from_is_err_and}
use Rattle.std.specs.Option.{option_or}
use Rattle.segment.specs.declared.field.Field.{Field}
use Rattle.segment.specs.declared.segment_fault.SegmentFault.{SegmentFault}
use Rattle.segment.specs.Columns.{asked}
use Rattle.segment.specs.Fields.{field_fault, fields_from}
use Rattle.segment.proofs.Sounds.{asked_err, asked_ok}
use Rattle.segment.proofs.segment.check.check_fields.Goals as goal

-- what the field at i says
from : (fs : List Field) (i : ℕ) (d : Field) (o : Option SegmentFault) → i < length fs → field_fault (take (i - 0) fs) (get_or fs i d) ≡ o → fields_from (take i fs) (drop i fs) ≡ option_or o (fields_from (take (i + 1) fs) (drop (i + 1) fs))
from fs i d o h q =
    let z : i ≡ i - 0 = omega arith in
    at_drop_more (fields_from (take i fs)) fs i d h
    ∙ (λ j. option_or (field_fault (take (z j) fs) (get_or fs i d)) (fields_from (sym (take_more fs i d h) j) (drop (i + 1) fs)))
    ∙ ap (λ p. option_or p (fields_from (take (i + 1) fs) (drop (i + 1) fs))) q

pub returns-in_err-check_field : goal.returns-in_err-check_field
returns-in_err-check_field c =
    let p = err_from_is_err_and c.from_residual.result c.from_residual.ensures.1 in
    p.1 ∙ ap Err p.2
    ∙ sym (ap asked (c.loop-i.invariant ∙ from c.args.fields.now c.loop-i.i _ (Some c.in_err-check_field.field-0.0) c.loop-i-test.true (asked_err _ _ c.in_err-check_field.ensures)))

pub loop-i-preserved : goal.loop-i-preserved
loop-i-preserved c = c.loop-i.invariant ∙ from c.args.fields.now c.loop-i.i _ None c.loop-i-test.true (asked_ok _ _ c.in_ok-check_field.ensures)

pub returns : goal.returns
returns c =
    let fs = c.args.fields.now in
    sym (ap asked (c.loop-i.invariant ∙ at_drop_all (fields_from (take c.loop-i.i fs)) fs c.loop-i.i c.loop-i-test.false))
