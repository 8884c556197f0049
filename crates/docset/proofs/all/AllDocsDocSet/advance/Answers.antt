use Rattle.std.proofs.Common.{rules}
use Rattle.docset.proofs.Walks.{all_more, all_none}
use Rattle.docset.proofs.all.AllDocsDocSet.advance.Goals as goal

pub returns-clause-rest : goal.returns-clause-rest
returns-clause-rest c = search (rules, all_more, all_none)
