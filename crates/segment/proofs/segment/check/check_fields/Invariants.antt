use Rattle.std.proofs.Common.{◌≡◌, [], take, drop}
use Rattle.segment.specs.Fields.{fields_from}
use Rattle.segment.proofs.segment.check.check_fields.Given as goal

abbrev pub invariant-loop-i : goal.invariant-loop-i
invariant-loop-i l = fields_from [] l.fields ≡ fields_from (take l.i l.fields) (drop l.i l.fields)
