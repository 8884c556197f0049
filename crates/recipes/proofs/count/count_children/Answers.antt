use Rattle.std.proofs.Common.{map, sym, subst}
use Rattle.std.proofs.lemmas.Result.{IfOk-weaker}
use Rattle.recipes.specs.Counting.{Counted}
use Rattle.recipes.specs.Recipes.{held_by}
use Rattle.recipes.proofs.Counts.{counted}
use Rattle.recipes.proofs.count.count_children.Goals as goal

pub returns : goal.returns
returns c =
    let rs = map held_by c.args.recipes.now in
    IfOk-weaker c.entries.result _ _ (λ v q. subst (Counted rs c.args.branch.now) (sym q) (counted held_by c.args.recipes.now _ _ c.in_ok-children.ensures)) c.entries.ensures
