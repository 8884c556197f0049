use Rattle.std.proofs.Common.{◌≡◌, true, false, sym, ◌∙◌, rules}
use Rattle.segment.proofs.Firsts.{at_place, past_all}
use Rattle.segment.proofs.first.all_pass.Goals as goal

pub returns-then-not-passes : goal.returns-then-not-passes
returns-then-not-passes g c test h =
    let e : false ≡ test c.loop-place.place = h _ _ c.loop-place-test.true (search rules) in
    sym (c.loop-place.invariant test h ∙ at_place test _ _ false c.loop-place-test.true e)

pub loop-place-preserved : goal.loop-place-preserved
loop-place-preserved g c test h =
    let e : true ≡ test c.loop-place.place = h _ _ c.loop-place-test.true (search rules) in
    c.loop-place.invariant test h ∙ at_place test _ _ true c.loop-place-test.true e

pub returns : goal.returns
returns g c test h = sym (c.loop-place.invariant test h ∙ past_all test _ _ c.loop-place-test.false)
