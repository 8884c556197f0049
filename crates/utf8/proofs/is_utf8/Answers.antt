use Rattle.std.proofs.Common.{◌≡◌, ℕ, Bool, List, IsUtf8, Decides, rules}
use Rattle.std.proofs.lemmas.Bool.Decides.{Decides-at}
use Rattle.utf8.specs.Octets.{utf8}
use Rattle.utf8.proofs.Laws.{grammar_text, text_grammar}
use Rattle.utf8.proofs.is_utf8.Goals as goal

decides : (r : Bool) (bs : List ℕ) → r ≡ utf8 bs → Decides r (IsUtf8 bs)
decides r bs e = Decides-at r (utf8 bs) e (grammar_text bs, text_grammar bs)

pub returns-in_default-clause-text : goal.returns-in_default-clause-text
returns-in_default-clause-text c = decides _ _ (search rules)

pub returns-clause-text : goal.returns-clause-text
returns-clause-text c = decides _ _ (search rules)
