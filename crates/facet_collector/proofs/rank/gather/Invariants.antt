use Rattle.facet_collector.proofs.Gathers.{Gathered}
use Rattle.facet_collector.proofs.rank.gather.Given as goal

abbrev pub invariant-loop-facet : goal.invariant-loop-facet
invariant-loop-facet l = Gathered l.hits l.len l.facet-iterator l.fn.entries
