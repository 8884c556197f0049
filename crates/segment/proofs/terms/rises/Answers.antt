use Rattle.std.proofs.Common.{◌-◌, ◌||◌, Bool, [], get_or, sym, ap, ◌∙◌}
use Rattle.std.proofs.lemmas.Bool.{ne_eqb}
use Rattle.std.specs.Ordering.{is_lt}
use Rattle.facet.specs.Paths.{order}
use Rattle.segment.specs.Items.{items}
use Rattle.segment.proofs.terms.rises.Goals as goal

pub returns-else-i-eq0 : goal.returns-else-i-eq0
returns-else-i-eq0 c =
    let xs = items c.args.terms.ends.now c.args.terms.all.now in
    let i = c.args.i in
    c.is_lt.ensures ∙ ap is_lt c.cmp.ensures
    ∙ (λ j. is_lt (order (c.at.ensures j) (c.at-else-i-eq0.ensures j)))
    ∙ sym (ap (λ (t : Bool). t || is_lt (order (get_or xs (i - 1) []) (get_or xs i []))) (ne_eqb i 0 c.if-i-eq0.false))
