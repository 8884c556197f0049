use Rattle.std.proofs.Common.{◌≡◌, rules}
use Rattle.docset.specs.Checks.{held_check}
use Rattle.docset.proofs.Checks.{held_exact}
use Rattle.docset.proofs.held.Held.check.Goals as goal

pub returns-clause-exact : goal.returns-clause-exact
returns-clause-exact c =
    let answer : c.map.result ≡ held_check c.args.docs.now c.args.scores.now = search rules in held_exact _ _ _ answer
