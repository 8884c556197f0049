use Rattle.facet_collector.proofs.Places.{add_fails, add_more}
use Rattle.facet_collector.proofs.counts.FacetCounts.add_all.Goals as goal

pub returns-in_err-add : goal.returns-in_err-add
returns-in_err-add c =
    rw c.from_residual.ensures (add_fails c.args.self.now c.args.entries.now c.loop-facet.facet-index c.loop-facet.self c.loop-facet-item.result
    c.loop-facet.invariant c.loop-facet-test.true c.loop-facet-item.is c.requires c.in_err-add.ensures.added)

pub loop-facet-preserved : goal.loop-facet-preserved
loop-facet-preserved c =
    add_more c.args.self.now c.args.entries.now c.loop-facet.facet-index c.loop-facet.self c.add.new.self c.loop-facet-item.result
    c.loop-facet.invariant c.loop-facet-test.true c.loop-facet-item.is c.requires c.in_ok-add.ensures.added
