use Rattle.utf8.proofs.Laws.{grammar_text}
use Rattle.facet.proofs.encoded.Facet.as_str.Goals as goal

pub from_utf8_unchecked-requires : goal.from_utf8_unchecked-requires
from_utf8_unchecked-requires c = grammar_text _ c.encoded.ensures.text
