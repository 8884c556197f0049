use Rattle.recipes.proofs.Cuts.{bare_stripped}
use Rattle.recipes.proofs.list.bare.Goals as goal

pub returns : goal.returns
returns c = bare_stripped c.strip_suffix.result c.args.line c.unwrap_or.result c.strip_suffix.ensures.cases c.unwrap_or.ensures
