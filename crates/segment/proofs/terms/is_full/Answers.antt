use Rattle.std.proofs.Common.{true, length, sym, ap, ◌∙◌, rules, tests}
use Rattle.std.proofs.lemmas.Bool.{eqb-false}
use Rattle.std.proofs.lemmas.Iterator.{YieldsList-from_slice}
use Rattle.std.proofs.lemmas.Iterator.Consumers.{fold_from_yields_List}
use Rattle.segment.proofs.Steps.{step_more, all_full, full_fold}
use Rattle.segment.proofs.terms.is_full.Goals as goal

pub returns : goal.returns
returns c =
    let xs = c.args.term.now in
    ap all_full (fold_from_yields_List _ step_more (true, 0) _ c.fold-full.ensures.ran (YieldsList-from_slice xs cc) (λ a x b q k. search (rules, tests)))
    ∙ sym (full_fold xs (eqb-false (length xs) 0 (sym c.if-is_empty.ensures)))
