use Rattle.std.proofs.Common.{◌∙◌}
use Rattle.facet.specs.Paths.{above}
use Rattle.facet.proofs.Paths.{prefix}
use Rattle.facet.proofs.encoded.Facet.is_prefix_of.Goals as goal

pub returns : goal.returns
returns c = prefix _ _ _ (c.is_above.ensures ∙ (λ i. above (c.encoded.ensures.value i) (c.encoded-2.ensures.value i)))
