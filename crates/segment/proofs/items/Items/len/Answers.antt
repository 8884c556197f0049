use Rattle.std.proofs.Common.{sym}
use Rattle.segment.proofs.Spans.{length_items}
use Rattle.segment.proofs.items.Items.len.Goals as goal

pub returns-clause-items : goal.returns-clause-items
returns-clause-items g c = sym (length_items 0 c.args.self.now.ends.now c.args.self.now.all.now)
