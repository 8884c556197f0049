use Rattle.std.proofs.Common.{arith, subst}
use Rattle.facet.proofs.Bytes.{Filled, filled_more, padded_filled}
use Rattle.facet.proofs.Octets.{utf8_unescaped}
use Rattle.facet.proofs.encoded.text.unescape.Goals as goal

pub loop-b-preserved : goal.loop-b-preserved
loop-b-preserved c = filled_more _ _ _ _ _ _ (omega arith) (subst (Filled _ _ _ _) c.in-Some.ensures.steps c.loop-b.invariant)

pub invariant_of-result : goal.invariant_of-result
invariant_of-result c =
    padded_filled _ _ _ (utf8_unescaped c.args.text.now c.requires) (subst (Filled _ _ _ _) c.in-None.ensures.steps.0 c.loop-b.invariant)
