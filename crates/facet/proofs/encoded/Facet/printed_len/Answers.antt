use Rattle.std.proofs.Common.{◌≡◌, ◌||◌, eqb, length, suc, ap, ◌∙◌, subst, arith, rules, tests}
use Rattle.std.specs.Prelude.{count_by}
use Rattle.std.proofs.lemmas.Iterator.{YieldsList-from_slice}
use Rattle.std.proofs.lemmas.Iterator.Consumers.{fold_from_yields_List}
use Rattle.facet.specs.Laws.{IsTextOf}
use Rattle.std.specs.List.{flat_map}
use Rattle.facet.specs.Text.{printed, shown}
use Rattle.facet.proofs.Bytes.{one_more, fold_count}
use Rattle.facet.proofs.Octets.{text_of}
use Rattle.facet.proofs.Texts.{joined_escaped, printed_is}
use Rattle.facet.proofs.encoded.Facet.printed_len.Goals as goal

module _ (c : goal.After-fold-escaped) where
  escaped : c.fold-escaped.result ≡ count_by (λ b. eqb b 47 || eqb b 92) c.encoded-encoded.result.now
  escaped =
      fold_from_yields_List _ (one_more (λ b. eqb b 47 || eqb b 92)) 0 _ c.fold-escaped.ensures.ran (YieldsList-from_slice c.encoded-encoded.result.now cc) (λ a x b q k. search (rules, tests))
      ∙ fold_count (λ b. eqb b 47 || eqb b 92) c.encoded-encoded.result.now (let l = c.encoded-encoded.ensures.bound in omega arith)

pub returns-clause-value : goal.returns-clause-value
returns-clause-value c =
    let e = c.encoded-encoded.result.now in
    let p : length (printed e) ≡ suc (length (flat_map shown e)) = ap length (printed_is e) in
    omega (arith, escaped c, joined_escaped e, p) ∙ ap (λ f. length (printed f)) c.encoded-encoded.ensures.value

pub returns-clause-text : goal.returns-clause-text
returns-clause-text c = subst (λ f. IsTextOf f (printed f)) c.encoded-encoded.ensures.value (text_of _ c.encoded-encoded.ensures.bound c.encoded-encoded.ensures.text)
