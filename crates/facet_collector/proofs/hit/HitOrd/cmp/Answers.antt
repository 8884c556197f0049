use Rattle.facet_collector.specs.Ranks.{rank_laws}
use Rattle.facet_collector.proofs.hit.HitOrd.cmp.Goals as goal

pub returns-clause-laws : goal.returns-clause-laws
returns-clause-laws c = rank_laws
