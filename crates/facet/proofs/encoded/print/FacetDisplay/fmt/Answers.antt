use Rattle.std.proofs.Common.{take, sym, ap, ◌∙◌}
use Rattle.std.proofs.lemmas.List.{take_at}
use Rattle.utf8.specs.Octets.{utf8}
use Rattle.utf8.proofs.Laws.{grammar_text}
use Rattle.facet.proofs.encoded.print.FacetDisplay.fmt.Goals as goal

pub from_utf8_unchecked-requires : goal.from_utf8_unchecked-requires
from_utf8_unchecked-requires g c =
    let w = c.in-Ok.ensures.written in
    grammar_text _ (ap utf8 (ap (take c.in-Ok.len) w.2 ∙ take_at _ _ c.in-Ok.len (sym w.0)) ∙ c.in-Ok.ensures.text.is_utf8)
