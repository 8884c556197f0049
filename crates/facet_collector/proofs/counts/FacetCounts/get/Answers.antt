use Rattle.std.proofs.Common.{ℕ, List, length, ap, arith}
use Rattle.std.proofs.lemmas.List.Sums.{count_by-le-length, length-filter}
use Rattle.facet.specs.Paths.{above}
use Rattle.facet_collector.proofs.Sums.{from_fits}
use Rattle.facet_collector.proofs.counts.FacetCounts.get.Goals as goal

pub returns-clause-bound : goal.returns-clause-bound
returns-clause-bound c =
    let e = c.as_slice.ensures in
    let p = λ (e : List ℕ × ℕ). above c.args.facet.now e.0 in
    omega (arith, ap length c.new.ensures, ap length e.value, length-filter p c.as_slice.result.now, count_by-le-length p c.as_slice.result.now, (from_fits c.args.self.now e.fits).0)
