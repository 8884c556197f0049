use Rattle.std.proofs.Common.{arith, subst}
use Rattle.facet.specs.Text.{printed}
use Rattle.facet.proofs.Bytes.{Filled, filled_more, filled_whole, length_filled}
use Rattle.facet.proofs.encoded.Facet.print.Goals as goal

pub loop-at-preserved : goal.loop-at-preserved
loop-at-preserved c =
    let st = c.in-Some.ensures.steps in
    let h = subst (Filled (printed c.args.self.now) c.args.buffer.now c.loop-at.buffer c.loop-at.at-iterator.count) st.0 c.loop-at.invariant in
    let l = length_filled _ _ _ _ _ h in
    rw (st.1, st.2) (filled_more _ _ _ _ _ _ (omega (arith, c.printed_len-len.ensures.value)) h)

pub returns-clause-written : goal.returns-clause-written
returns-clause-written c =
    let st = c.in-None.ensures.steps in
    let n = c.printed_len-len.ensures.value in
    let h = subst (Filled (printed c.args.self.now) c.args.buffer.now c.loop-at.buffer c.loop-at.at-iterator.count) st.0.0 c.loop-at.invariant in
    (n, omega arith, filled_whole _ _ _ _ _ n h)
