use Rattle.collector.specs.ScoresLemmas.{le_reaches}
use Rattle.collector.proofs.floor.Floor.is_reached.Goals as goal

pub returns : goal.returns
returns c = le_reaches c.args.self.now.floor c.args.score c.args.self.now.number
