use Rattle.std.proofs.Common.{ltb, ◌∙◌, rules}
use Rattle.std.proofs.lemmas.List.Sorted.{answers_always}
use Rattle.docset.proofs.Rising.{answers, rises_last, rises_none}
use Rattle.docset.proofs.held.rising.Goals as goal

pub returns-then-is_sorted_by : goal.returns-then-is_sorted_by
returns-then-is_sorted_by c =
    let h : answers c.args.docs.now c.is_sorted_by.result = c.is_sorted_by.ensures.cases ltb (answers_always _ _ _ (λ f a r g k. search rules)) in
    let e = c.if-is_sorted_by.true in
    rises_last _ _ _ _ (rw e at h) c.last.ensures.value (λ d k. search rules) c.is_none_or.ensures

pub returns-else-is_sorted_by : goal.returns-else-is_sorted_by
returns-else-is_sorted_by c =
    let h : answers c.args.docs.now c.is_sorted_by.result = c.is_sorted_by.ensures.cases ltb (answers_always _ _ _ (λ f a r g k. search rules)) in
    let e = c.if-is_sorted_by.false in
    e ∙ rises_none _ (rw e at h)
