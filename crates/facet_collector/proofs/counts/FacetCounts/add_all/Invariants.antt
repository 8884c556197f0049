use Rattle.std.proofs.Common.{◌≡◌, take}
use Rattle.facet_collector.specs.Entries.{sums}
use Rattle.facet_collector.proofs.counts.FacetCounts.add_all.Given as goal

abbrev pub invariant-loop-facet : goal.invariant-loop-facet
invariant-loop-facet l = l.self ≡ sums l.fn.self (take l.facet-index l.entries)
