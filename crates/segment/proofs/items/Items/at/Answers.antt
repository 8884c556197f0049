use Rattle.std.proofs.Common.{ℕ, ◌-◌, get_or, take, drop, ap, ◌∙◌}
use Rattle.segment.proofs.Spans.{item_at}
use Rattle.segment.proofs.items.Items.at.Goals as goal

pub returns : goal.returns
returns g c =
    let ends = c.args.self.now.ends.now in
    let i = c.args.i in
    ap (λ (s : ℕ). take (get_or ends i 0 - s) (drop s c.args.self.now.all.now)) c.start_of-start.ensures ∙ item_at 0 ends c.args.self.now.all.now i c.requires
