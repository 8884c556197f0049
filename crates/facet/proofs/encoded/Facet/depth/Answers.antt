use Rattle.std.proofs.Common.{◌≡◌, ◌+◌, eqb, length, sym, ap, ◌∙◌, arith, rules, tests}
use Rattle.std.specs.Prelude.{count_by}
use Rattle.std.proofs.lemmas.Bool.{eqb-false}
use Rattle.std.proofs.lemmas.Iterator.{YieldsList-from_slice}
use Rattle.std.proofs.lemmas.Iterator.Consumers.{fold_from_yields_List}
use Rattle.std.proofs.lemmas.List.Sums.{count_by-le-length}
use Rattle.facet.proofs.Bytes.{one_more, fold_count}
use Rattle.facet.proofs.Paths.{depth_is, steps_join}
use Rattle.facet.proofs.encoded.Facet.depth.Goals as goal

module _ (c : goal.After-fold-separators) where
  separators : c.fold-separators.result ≡ count_by (λ b. eqb b 0) c.encoded.result.now
  separators =
      fold_from_yields_List _ (one_more (λ b. eqb b 0)) 0 _ c.fold-separators.ensures.ran (YieldsList-from_slice c.encoded.result.now cc) (λ a x b q k. search (rules, tests))
      ∙ fold_count (λ b. eqb b 0) c.encoded.result.now (let l = c.encoded.ensures.bound in omega arith)

pub overflow_add-result : goal.overflow_add-result
overflow_add-result c =
    let n = separators c in
    let m = count_by-le-length (λ b. eqb b 0) c.encoded.result.now in
    let l = c.encoded.ensures.bound in
    omega arith

pub returns-clause-value : goal.returns-clause-value
returns-clause-value c =
    let f = c.args.self.now in
    ap (λ k. k + 1) (separators c ∙ ap (count_by (λ b. eqb b 0)) c.encoded.ensures.value) ∙ sym (depth_is f (eqb-false (length f) 0 (sym c.if-is_root.ensures)))

pub returns-clause-joined : goal.returns-clause-joined
returns-clause-joined c = steps_join c.args.self.now
