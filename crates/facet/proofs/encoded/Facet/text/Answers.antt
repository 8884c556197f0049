use Rattle.std.proofs.Common.{ℕ, List, ◌∷◌, sym, ap, ◌∙◌, subst}
use Rattle.std.specs.List.{flat_map}
use Rattle.facet.specs.Laws.{IsTextOf}
use Rattle.facet.specs.Text.{printed, shown}
use Rattle.facet.proofs.Octets.{text_of}
use Rattle.facet.proofs.Texts.{printed_is}
use Rattle.facet.proofs.encoded.Facet.text.Goals as goal

pub returns-clause-value : goal.returns-clause-value
returns-clause-value c = ap (λ (l : List ℕ). 47 ∷ flat_map shown l) c.encoded.ensures.value ∙ sym (printed_is c.args.self.now)

pub returns-clause-text : goal.returns-clause-text
returns-clause-text c = subst (λ (f : List ℕ). IsTextOf f (printed f)) c.encoded.ensures.value (text_of _ c.encoded.ensures.bound c.encoded.ensures.text)
