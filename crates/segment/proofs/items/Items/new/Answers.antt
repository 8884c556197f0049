use Rattle.std.proofs.Common.{sym}
use Rattle.segment.proofs.Spans.{all_within}
use Rattle.segment.proofs.items.Items.new.Goals as goal

pub invariant_of-result : goal.invariant_of-result
invariant_of-result g c = record { within = all_within c.args.limit c.args.ends.now _ (sym c.in_ok-check_ends.ensures) }
