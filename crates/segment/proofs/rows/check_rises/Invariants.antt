use Rattle.std.proofs.Common.{◌≡◌, drop}
use Rattle.segment.specs.Columns.{falls_from}
use Rattle.segment.specs.Items.{start_of, items}
use Rattle.segment.proofs.rows.check_rises.Given as goal

abbrev pub invariant-loop-i : goal.invariant-loop-i
invariant-loop-i l = falls_from 0 (items l.rows.ends.now l.rows.all.now) ≡ falls_from (start_of l.rows.ends.now l.i) (drop l.i (items l.rows.ends.now l.rows.all.now))
