use Rattle.std.proofs.Common.{◌≡◌, ℕ, ◌<◌, true, List, [], ◌∷◌, length, get_or, drop, sym, ap, ◌∙◌, arith, ltb-false, eqb-true}
use Rattle.std.proofs.lemmas.List.{take_rest}
use Rattle.utf8.specs.Octets.{utf8}
use Rattle.utf8.proofs.Laws.{ascii_step}
use Rattle.facet.proofs.encoded.Facet.from_text.Goals as goal

rest_utf8 : (xs : List ℕ) → 0 < length xs → get_or xs 0 0 ≡ 47 → utf8 xs ≡ true → utf8 (drop 1 xs) ≡ true
rest_utf8 [] h e u = absurd (omega arith)
rest_utf8 (b ∷ xs) h e u = sym (ascii_step b xs (omega arith)) ∙ u

pub unescape-requires : goal.unescape-requires
unescape-requires c =
    let xs = c.args.text.now in
    let h : 0 < length xs = omega (arith, ltb-false) in
    let e : get_or xs 0 0 ≡ 47 = omega (arith, eqb-true) in
    ap utf8 (take_rest xs 1) ∙ rest_utf8 xs h e (sym c.if-not-is_utf8.ensures.grammar)
