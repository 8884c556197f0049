use Rattle.std.proofs.Common.{sym, subst, ◌∙◌}
use Rattle.facet.specs.Facets.{Ordered, ordered}
use Rattle.facet.specs.Paths.{order}
use Rattle.facet.proofs.encoded.order.FacetOrd.cmp.Goals as goal

pub returns-clause-ordered : goal.returns-clause-ordered
returns-clause-ordered c =
    subst (Ordered c.args.self.now c.args.other.now) (sym (c.cmp.ensures ∙ (λ i. order (c.encoded.ensures.value i) (c.encoded-2.ensures.value i)))) (ordered _ _)
