use Rattle.std.proofs.Common.{◌≡◌, ℕ, suc, ◌+◌, List, [], ◌∷◌, ◌++◌, length, get_or, drop, eqb, Ok, vec_items, sym, refl, ap, ◌∙◌, add-one, rules, tests}
use Rattle.std.proofs.lemmas.Iterator.Consumers.{YieldsList-at, YieldsList-from_enumerate}
use Rattle.std.proofs.lemmas.Iterator.Splits.{YieldsList-from_slice_split}
use Rattle.std.proofs.lemmas.List.{length_push}
use Rattle.std.specs.List.{slice_split}
use Rattle.facet.specs.Pieces.{split, first_piece}
use Rattle.facet.specs.Reading.{read}
use Rattle.recipes.specs.Lines.{first, placed, facets_from, recipe_of, named}
use Rattle.recipes.proofs.Cuts.{first_of_split, slice_split-split, first_call, piece_more, piece_none}
use Rattle.recipes.proofs.Lists.{ahead, ahead_first, ahead_all, passes_on}
use Rattle.recipes.proofs.line.read_line.Given as given
use Rattle.recipes.proofs.line.read_line.Goals as goal

-- one facet more, of the field behind k others and the name
more : (n k : ℕ) (xs ys : List (List ℕ)) (f : List ℕ) (fs ts : List (List ℕ)) (t : List ℕ) → fs ≡ t ∷ ts → placed n (suc k) t (read t) ≡ Ok f → ys ≡ xs ++ f ∷ []
    → ahead xs (facets_from n (suc k) fs) ≡ ahead ys (facets_from n (suc k + 1) ts)
more n k xs ys f fs ts t e q y =
    ap (λ (l : List (List ℕ)). ahead xs (facets_from n (suc k) l)) e
    ∙ (λ i. ahead xs (first (q i) (facets_from n (sym (add-one (suc k)) i) ts)))
    ∙ ahead_first xs f (facets_from n (suc k + 1) ts)
    ∙ ap (λ (l : List (List ℕ)). ahead l (facets_from n (suc k + 1) ts)) (sym y)

-- the name and the facets of a line
whole : (n : ℕ) (line name : List ℕ) (ts : List (List ℕ)) (fs : List (List ℕ)) → split 9 line ≡ name ∷ ts → facets_from n 1 ts ≡ Ok fs → recipe_of n line ≡ Ok (name, fs)
whole n line name ts fs e q =
    (λ i. named (first_of_split 9 line [] i) (facets_from n 1 (drop 1 (e i)))) ∙ (λ i. named (get_or (e i) 0 []) (q i))

pub loop-field-preserved : goal.loop-field-preserved
loop-field-preserved c =
    let ps = slice_split (λ b. eqb b 9) c.args.line.now in
    let xs = c.loop-field.yielded in
    let y = first_call (given.iterator-loop-field).next_gives xs _ c.loop-field.field-iterator c.loop-field.yielded_by c.enumerate-fields.result c.unwrap.result _ _ c.next.ensures.steps c.unwrap.ensures c.into_iter-field-iterator.ensures.into_iter_gives in
    let p = piece_more (c.unwrap.result ∷ xs) _ y _ _
    c.next-in-loop-field.ensures.steps ps
    (YieldsList-from_enumerate (YieldsList-at c.enumerate-fields.ensures.source
    (YieldsList-from_slice_split _ (λ b. eqb b 9) c.args.line.now c.split.ensures.rest c.split.ensures.done c.split.ensures.closure (λ x r q k. search (rules, tests)))) c.enumerate-fields.ensures.count)
    c.in-Some.field c.in-Some.text c.in-Some.is in
    c.loop-field.invariant
    ∙ more c.args.number (length xs) _ _ c.in_ok-read_facet.field-0 _ _ c.in-Some.text.now p.1 (ap (λ j. placed c.args.number j c.in-Some.text.now (read c.in-Some.text.now)) (sym p.0) ∙ c.in_ok-read_facet.ensures) c.in_ok-push.ensures.items
    ∙ ap (λ j. ahead (vec_items c.push.new.self) (facets_from c.args.number j (drop j ps))) (add-one (suc (length xs)) ∙ ap suc (sym (add-one (length xs)) ∙ sym (length_push xs _)))

pub returns-in_err-read_facet : goal.returns-in_err-read_facet
returns-in_err-read_facet c =
    let ps = slice_split (λ b. eqb b 9) c.args.line.now in
    let xs = c.loop-field.yielded in
    let y = first_call (given.iterator-loop-field).next_gives xs _ c.loop-field.field-iterator c.loop-field.yielded_by c.enumerate-fields.result c.unwrap.result _ _ c.next.ensures.steps c.unwrap.ensures c.into_iter-field-iterator.ensures.into_iter_gives in
    let p = piece_more (c.unwrap.result ∷ xs) _ y _ _
    c.next-in-loop-field.ensures.steps ps
    (YieldsList-from_enumerate (YieldsList-at c.enumerate-fields.ensures.source
    (YieldsList-from_slice_split _ (λ b. eqb b 9) c.args.line.now c.split.ensures.rest c.split.ensures.done c.split.ensures.closure (λ x r q k. search (rules, tests)))) c.enumerate-fields.ensures.count)
    c.in-Some.field c.in-Some.text c.in-Some.is in
    let n = c.args.number in
    let fs = vec_items c.loop-field.facets in
    passes_on (λ (f : List ℕ). f) _ _ (recipe_of n c.args.line.now)
    (λ e h. ap (λ l. named (first_piece 9 c.args.line.now) (facets_from n 1 (drop 1 l))) (sym (slice_split-split 9 c.args.line.now))
    ∙ ap (named (first_piece 9 c.args.line.now)) (c.loop-field.invariant
    ∙ ap (λ l. ahead fs (facets_from n (suc (length xs)) l)) p.1
    ∙ ap (λ o. ahead fs (first o (facets_from n (suc (suc (length xs))) (drop (suc (length xs) + 1) ps)))) (ap (λ j. placed n j c.in-Some.text.now (read c.in-Some.text.now)) (sym p.0) ∙ h)))
    c.in_err-read_facet.field-0.0 _ c.in_err-read_facet.ensures c.from_residual-in_err-read_facet.ensures.1

pub returns : goal.returns
returns c =
    let ps = slice_split (λ b. eqb b 9) c.args.line.now in
    let xs = c.loop-field.yielded in
    let n = c.args.number in
    let fs = vec_items c.loop-field.facets in
    let p = piece_more [] _ refl _ _ c.next.ensures.steps ps
    (YieldsList-from_enumerate (YieldsList-at c.enumerate-fields.ensures.source
    (YieldsList-from_slice_split _ (λ b. eqb b 9) c.args.line.now c.split.ensures.rest c.split.ensures.done c.split.ensures.closure (λ x r q k. search (rules, tests)))) c.enumerate-fields.ensures.count)
    c.unwrap.result.0 c.unwrap.result.1 c.unwrap.ensures in
    let y = first_call (given.iterator-loop-field).next_gives xs _ c.loop-field.field-iterator c.loop-field.yielded_by c.enumerate-fields.result c.unwrap.result _ _ c.next.ensures.steps c.unwrap.ensures c.into_iter-field-iterator.ensures.into_iter_gives in
    let e = piece_none (c.unwrap.result ∷ xs) _ y _ _
    c.next-in-loop-field.ensures.steps ps
    (YieldsList-from_enumerate (YieldsList-at c.enumerate-fields.ensures.source
    (YieldsList-from_slice_split _ (λ b. eqb b 9) c.args.line.now c.split.ensures.rest c.split.ensures.done c.split.ensures.closure (λ x r q k. search (rules, tests)))) c.enumerate-fields.ensures.count)
    c.in-None.is in
    whole n c.args.line.now _ _ fs (sym (slice_split-split 9 c.args.line.now) ∙ p.1)
    (c.loop-field.invariant ∙ ap (λ l. ahead fs (facets_from n (suc (length xs)) l)) e ∙ ahead_all fs)
    ∙ ap (λ name. Ok (name, fs)) (sym c.in_ok-name.ensures.items)
