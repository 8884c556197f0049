use Rattle.std.proofs.Common.{◌≡◌, true, false, length, take, refl, ap, arith}
use Rattle.segment.proofs.Ordinals.{terms_ascend, terms_short}
use Rattle.std.proofs.lemmas.Slice.Eq.{slice_eq-Decides}
use Rattle.std.proofs.lemmas.Bool.{both_ways}
use Rattle.std.proofs.lemmas.Bool.Decides.{Decides-eqb}
use Rattle.facet_collector.proofs.Walks.{step_none, step_same, step_new, step_many}
use Rattle.facet_collector.proofs.collapse.Walk.step.Goals as goal
use Rattle.facet_collector.proofs.collapse.Walk.step.Goals.{After-eq}

pub child_end-requires-clause-short : goal.child_end-requires-clause-short
child_end-requires-clause-short c =
    let e = ap length c.requires.next.1 in let s = terms_short c.args.terms.now c.args.ordinal c.requires.next.0 in omega arith

pub returns-in_default : goal.returns-in_default
returns-in_default c =
    step_none _ _ c.seek-self.ensures.requestable (terms_ascend c.args.terms.now) _ c.requires.next.0 _ _ _ _ c.requires.walked _ c.requires.next.1 _ c.seek-self.ensures.sought c.in_default.ensures

-- whether the term leads to the last child
module _ (c : goal.After-eq) where
  same : c.eq.result ≡ true → take c.in-Some.end c.args.term.now ≡ c.args.self.now.child.now
  same t = (slice_eq-Decides Decides-eqb _ _ _ c.eq.ensures).0 t

  differ : c.eq.result ≡ false → take c.in-Some.end c.args.term.now ≡ c.args.self.now.child.now → ⊥
  differ f e = both_ways _ f ((slice_eq-Decides Decides-eqb _ _ _ c.eq.ensures).1 e)

pub returns-then-eq : goal.returns-then-eq
returns-then-eq c =
    step_same _ _ c.seek-self.ensures.requestable (terms_ascend c.args.terms.now) _ c.requires.next.0 _ _ _ _ c.requires.walked _ c.requires.next.1 _ c.seek-self.ensures.sought _ _ c.in-Some.ensures (same (goal.at.returns-then-eq c).After-eq c.if-eq.true)

pub returns-then-slot-eq-MOST_CHILDREN : goal.returns-then-slot-eq-MOST_CHILDREN
returns-then-slot-eq-MOST_CHILDREN c =
    (refl, step_many _ _ c.seek-self.ensures.requestable (terms_ascend c.args.terms.now) _ c.requires.next.0 _ _ _ _ c.requires.walked _ c.requires.next.1 _ c.seek-self.ensures.sought _ _ c.in-Some.ensures (differ (goal.at.returns-then-slot-eq-MOST_CHILDREN c).After-eq c.if-eq.false) (omega (arith, c.if-slot-eq-MOST_CHILDREN.true)))

pub returns : goal.returns
returns c =
    step_new _ _ c.seek-self.ensures.requestable (terms_ascend c.args.terms.now) _ c.requires.next.0 _ _ _ _ c.requires.walked _ c.requires.next.1 _ c.seek-self.ensures.sought _ _ c.in-Some.ensures (differ (goal.at.returns c).After-eq c.if-eq.false) (let f = c.requires.walked.few in omega (arith, c.if-slot-eq-MOST_CHILDREN.false))
