use Rattle.std.proofs.Common.{ap, ◌∙◌}
use Rattle.facet.specs.Paths.{order}
use Rattle.std.specs.Ordering.{is_gt}
use Rattle.facet_collector.proofs.collapse.is_behind.Goals as goal

pub returns : goal.returns
returns c = c.is_gt.ensures ∙ ap is_gt (c.cmp.ensures ∙ ap (λ f. order f c.args.term.now) c.encoded.ensures.value)
