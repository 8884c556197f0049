use Rattle.std.proofs.Common.{◌≡◌, ℕ, Bool, cond, eqb, arith, List, [], ◌∷◌, length, refl, sym, ap, ◌∙◌, rules}
use Rattle.std.proofs.lemmas.Bool.{eq-eqb, ne_eqb}
use Rattle.std.proofs.lemmas.Iterator.{IsFirst-from_position, YieldsList-from_slice, index_from_first}
use borrow.Author.Tests.{tests}
use Rattle.facet.specs.Pieces.{first_piece}
use Rattle.facet.proofs.pieces.piece_len.Goals as goal

-- what the test of a byte says of the piece from it on
at_piece : (s b : ℕ) (bs : List ℕ) (t : Bool) → eqb b s ≡ t → length (first_piece s (b ∷ bs)) ≡ length (cond t [] (b ∷ first_piece s bs))
at_piece s b bs t e = ap (λ (u : Bool). length (cond u [] (b ∷ first_piece s bs))) e

pub returns : goal.returns
returns c =
    let s = c.args.separator in
    let first =
    IsFirst-from_position _ _ c.position.result (λ b. b ≡ s) (λ b. b ≡ s → ⊥) c.position.ensures.ran (YieldsList-from_slice c.args.bytes.now cc)
    (λ x q k. search (rules, tests)) (λ x q k. search (rules, tests)) in
    c.unwrap_or.ensures
    ∙ sym (index_from_first (λ l. length (first_piece s l)) (λ b. b ≡ s) (λ b. b ≡ s → ⊥) refl
    (λ b bs e. at_piece s b bs _ (eq-eqb b s e)) (λ b bs n. at_piece s b bs _ (ne_eqb b s n) ∙ omega arith) c.args.bytes.now _ first)
