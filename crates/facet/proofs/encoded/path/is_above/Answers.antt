use Rattle.std.proofs.Common.{false, sym, refl, ◌∙◌}
use Rattle.std.proofs.lemmas.Slice.Eq.{starts_is}
use Rattle.std.proofs.lemmas.Bool.{eqb-false, both_ways}
use Rattle.facet.proofs.Paths.{not_above_shorter, above_begun, not_above_other}
use Rattle.facet.proofs.encoded.path.is_above.Goals as goal
use Rattle.std.proofs.lemmas.Bool.Decides.{Decides-eqb}

pub returns-then-below-encoded : goal.returns-then-below-encoded
returns-then-below-encoded c = sym (not_above_shorter _ _ c.if-below-encoded.true)

pub returns-then-starts_with : goal.returns-then-starts_with
returns-then-starts_with c =
    let s = starts_is Decides-eqb _ _ _ c.if-starts_with.ensures.value in
    sym (above_begun _ _ (eqb-false _ 0 (sym c.if-is_empty.ensures)) c.if-below-encoded.false (s.0 refl))

pub returns-else-starts_with : goal.returns-else-starts_with
returns-else-starts_with c =
    let s = starts_is Decides-eqb _ _ _ c.if-starts_with.ensures.value in
    c.if-starts_with.false ∙ sym (not_above_other _ _ (eqb-false _ 0 (sym c.if-is_empty.ensures)) (λ r e. both_ways false refl (s.1 r e)))
