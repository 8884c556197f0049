use Rattle.std.proofs.Common.{arith}
use Rattle.facet_collector.proofs.Fronts.{front}
use Rattle.facet_collector.proofs.rank.rank.Goals as goal

pub returns-clause-front : goal.returns-clause-front
returns-clause-front g c =
    let s = c.sort_unstable.ensures in
    front g.met.T.Ord.total c.args.k c.min.result c.args.records.now c.sort_unstable.new.self s.permutation s.sorted (let m = c.min.ensures in let l = s.len in omega arith)
