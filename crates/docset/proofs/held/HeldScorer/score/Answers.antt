use Rattle.std.proofs.Common.{rules}
use Rattle.docset.proofs.Walks.{first_score-zip}
use Rattle.docset.proofs.held.HeldScorer.score.Goals as goal

pub returns : goal.returns
returns c = search (rules, first_score-zip)
