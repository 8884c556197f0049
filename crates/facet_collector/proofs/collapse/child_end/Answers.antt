use Rattle.std.proofs.Common.{◌≡◌, ◌-◌, ◌<◌, ◌≤◌, true, [], length, get_or, sym, ap, ◌∙◌, arith, rules, length-take}
use Rattle.facet.specs.Paths.{above}
use Rattle.facet_collector.proofs.Seeks.{last_of_front, ends_none, starts_within, ends_within, ends_empty, ends_some}
use Rattle.facet_collector.proofs.collapse.child_end.Goals as goal
use Rattle.facet_collector.proofs.collapse.child_end.Goals.{After-child_offset-start}

pub returns-in_default : goal.returns-in_default
returns-in_default c =
    let e = ap length c.as_slice.ensures.value in
    let l = c.in_default.len_below in
    let m = length-take c.args.at c.as_slice.result.now in
    ends_none _ _ c.args.at c.as_slice.ensures.requestable c.requires.sought (λ z. let w = c.requires.sought.within in absurd (omega arith))

pub returns-then-not-is_above : goal.returns-then-not-is_above
returns-then-not-is_above c =
    let l = last_of_front _ _ _ _ c.as_slice.ensures.value c.requires.sought.within c.in-len1-up.len_at_least c.request-item.is in
    ends_none _ _ c.args.at c.as_slice.ensures.requestable c.requires.sought (λ _. ap (λ f. above f c.args.term.now) (l.1 ∙ sym c.encoded.ensures.value) ∙ sym c.if-not-is_above.ensures)

-- the request is above the term
module _ (c : goal.After-child_offset-start) where
  last : (c.args.at - 1 < length c.args.requests.now) × (get_or c.args.requests.now (c.args.at - 1) [] ≡ c.request-item.result)
  last = last_of_front _ _ _ _ c.as_slice.ensures.value c.requires.sought.within c.in-len1-up.len_at_least c.request-item.is

  found : above c.request-item.result c.args.term.now ≡ true
  found = ap (λ f. above f c.args.term.now) (sym c.encoded.ensures.value) ∙ sym c.if-not-is_above.ensures

  within : c.child_offset-start.result ≤ length c.args.term.now
  within = starts_within _ _ _ _ c.as_slice.ensures.requestable last.0 last.1 found _ c.child_offset-start.ensures.value

pub slice_bounds-step_end-count : goal.slice_bounds-step_end-count
slice_bounds-step_end-count c = within c

pub slice_bounds-step_end-start : goal.slice_bounds-step_end-start
slice_bounds-step_end-start c = let h = within c in search rules

pub overflow_add-end : goal.overflow_add-end
overflow_add-end c =
    let b = (goal.at.overflow_add-end c).After-child_offset-start in
    let h = ends_within _ _ _ _ c.as_slice.ensures.requestable (last b).0 (last b).1 (found b) _ c.child_offset-start.ensures.value _ c.step_end.ensures in
    let s = c.requires.short in search rules

pub returns-then-end-eq0 : goal.returns-then-end-eq0
returns-then-end-eq0 c =
    let b = (goal.at.returns-then-end-eq0 c).After-child_offset-start in
    ends_empty _ _ _ _ c.as_slice.ensures.requestable (last b).0 (last b).1 (found b) _ c.child_offset-start.ensures.value _ c.step_end.ensures (omega (arith, c.if-end-eq0.true))

pub returns : goal.returns
returns c =
    let b = (goal.at.returns c).After-child_offset-start in
    ends_some _ _ _ _ c.as_slice.ensures.requestable (last b).0 (last b).1 (found b) _ c.child_offset-start.ensures.value _ c.step_end.ensures _ c.depth.ensures.value (λ z. c.if-end-eq0.false z)
