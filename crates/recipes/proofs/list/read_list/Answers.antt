use Rattle.std.proofs.Common.{◌≡◌, ℕ, suc, ◌+◌, Bool, true, false, cond, eqb, List, [], ◌∷◌, ◌++◌, map, length, drop, Ok, vec_items, sym, ap, ◌∙◌, add-one, length-append, rules, tests}
use Rattle.std.proofs.lemmas.Iterator.Consumers.{YieldsList-at, YieldsList-from_enumerate}
use Rattle.std.proofs.lemmas.Iterator.Splits.{YieldsList-from_slice_split}
use Rattle.std.proofs.lemmas.List.{map_push}
use Rattle.std.specs.List.{slice_split}
use Rattle.recipes.specs.declared.recipe.Recipe.{Recipe}
use Rattle.recipes.specs.Lines.{bare, first, recipe_of, recipes_from, recipes_of, told_of}
use Rattle.recipes.proofs.Cuts.{slice_split-split, piece_more, piece_none}
use Rattle.recipes.proofs.Lists.{ahead, ahead_first, ahead_all, passes_on}
use Rattle.recipes.proofs.list.read_list.Goals as goal

-- a line b behind k others, and then the rest
module _ (k : ℕ) (ls rest : List (List ℕ)) (l b : List ℕ) (e : ls ≡ l ∷ rest) (q : b ≡ bare l) where
  by_line : (t : Bool) → t ≡ eqb (length b) 0 → recipes_from (suc k) ls ≡ cond t (recipes_from (suc (k + 1)) rest) (first (recipe_of (suc k) b) (recipes_from (suc (k + 1)) rest))
  by_line t h =
      ap (recipes_from (suc k)) e
      ∙ (λ i. cond (eqb (length (sym q i)) 0) (recipes_from (suc (sym (add-one k) i)) rest) (first (recipe_of (suc k) (sym q i)) (recipes_from (suc (sym (add-one k) i)) rest)))
      ∙ ap (λ (u : Bool). cond u (recipes_from (suc (k + 1)) rest) (first (recipe_of (suc k) b) (recipes_from (suc (k + 1)) rest))) (sym h)

  more : (xs ys : List Recipe) (r : Recipe) → false ≡ eqb (length b) 0 → recipe_of (suc k) b ≡ Ok (told_of r) → ys ≡ xs ++ r ∷ [] → ahead (map told_of xs) (recipes_from (suc k) ls) ≡ ahead (map told_of ys) (recipes_from (suc (k + 1)) rest)
  more xs ys r h o y =
      ap (ahead (map told_of xs)) (by_line false h ∙ ap (λ u. first u (recipes_from (suc (k + 1)) rest)) o)
      ∙ ahead_first (map told_of xs) (told_of r) (recipes_from (suc (k + 1)) rest)
      ∙ ap (λ l. ahead l (recipes_from (suc (k + 1)) rest)) (sym (map_push told_of xs r) ∙ ap (map told_of) (sym y))

pub loop-i-preserved-in_ok-push : goal.loop-i-preserved-in_ok-push
loop-i-preserved-in_ok-push c =
    let ps = slice_split (λ b. eqb b 10) c.args.text.now in
    let k = length c.loop-i.yielded in
    let p = piece_more c.loop-i.yielded _ c.loop-i.yielded_by _ _ c.next.ensures.steps ps
    (YieldsList-at c.into_iter-i-iterator.ensures.into_iter_gives
    (YieldsList-from_enumerate (YieldsList-at c.enumerate-i-items.ensures.source
    (YieldsList-from_slice_split _ (λ b. eqb b 10) c.args.text.now c.split.ensures.rest c.split.ensures.done c.split.ensures.closure (λ x r q k. search (rules, tests)))) c.enumerate-i-items.ensures.count))
    c.in-Some.i c.in-Some.whole c.in-Some.is in
    c.loop-i.invariant
    ∙ more k _ _ _ _ p.1 c.bare-line.ensures _ _ _ c.if-not-is_empty.ensures (ap (λ n. recipe_of n c.bare-line.result.now) (sym (ap (λ j. j + 1) p.0 ∙ add-one k)) ∙ c.in_ok-read_line.ensures) c.in_ok-push.ensures.items
    ∙ ap (λ n. ahead (map told_of (vec_items c.push.new.self)) (recipes_from (suc n) (drop n ps))) (sym (length-append c.loop-i.yielded _))

pub loop-i-preserved : goal.loop-i-preserved
loop-i-preserved c =
    let ps = slice_split (λ b. eqb b 10) c.args.text.now in
    let k = length c.loop-i.yielded in
    let p = piece_more c.loop-i.yielded _ c.loop-i.yielded_by _ _ c.next.ensures.steps ps
    (YieldsList-at c.into_iter-i-iterator.ensures.into_iter_gives
    (YieldsList-from_enumerate (YieldsList-at c.enumerate-i-items.ensures.source
    (YieldsList-from_slice_split _ (λ b. eqb b 10) c.args.text.now c.split.ensures.rest c.split.ensures.done c.split.ensures.closure (λ x r q k. search (rules, tests)))) c.enumerate-i-items.ensures.count))
    c.in-Some.i c.in-Some.whole c.in-Some.is in
    c.loop-i.invariant
    ∙ ap (ahead (map told_of (vec_items c.loop-i.recipes))) (by_line k _ _ _ _ p.1 c.bare-line.ensures true c.if-not-is_empty.ensures)
    ∙ ap (λ n. ahead (map told_of (vec_items c.loop-i.recipes)) (recipes_from (suc n) (drop n ps))) (sym (length-append c.loop-i.yielded _))

pub returns-in_err-read_line : goal.returns-in_err-read_line
returns-in_err-read_line c =
    let ps = slice_split (λ b. eqb b 10) c.args.text.now in
    let k = length c.loop-i.yielded in
    let p = piece_more c.loop-i.yielded _ c.loop-i.yielded_by _ _ c.next.ensures.steps ps
    (YieldsList-at c.into_iter-i-iterator.ensures.into_iter_gives
    (YieldsList-from_enumerate (YieldsList-at c.enumerate-i-items.ensures.source
    (YieldsList-from_slice_split _ (λ b. eqb b 10) c.args.text.now c.split.ensures.rest c.split.ensures.done c.split.ensures.closure (λ x r q k. search (rules, tests)))) c.enumerate-i-items.ensures.count))
    c.in-Some.i c.in-Some.whole c.in-Some.is in
    passes_on told_of _ _ (recipes_of c.args.text.now)
    (λ e h. ap (recipes_from 1) (sym (slice_split-split 10 c.args.text.now)) ∙ c.loop-i.invariant
    ∙ ap (ahead (map told_of (vec_items c.loop-i.recipes))) (by_line k _ _ _ _ p.1 c.bare-line.ensures false c.if-not-is_empty.ensures
    ∙ ap (λ u. first u (recipes_from (suc (k + 1)) (drop (k + 1) ps))) (ap (λ n. recipe_of n c.bare-line.result.now) (sym (ap (λ j. j + 1) p.0 ∙ add-one k)) ∙ h)))
    c.in_err-read_line.field-0.0 _ c.in_err-read_line.ensures c.from_residual.ensures.1

pub returns : goal.returns
returns c =
    let ps = slice_split (λ b. eqb b 10) c.args.text.now in
    let e = piece_none c.loop-i.yielded _ c.loop-i.yielded_by _ _ c.next.ensures.steps ps
    (YieldsList-at c.into_iter-i-iterator.ensures.into_iter_gives
    (YieldsList-from_enumerate (YieldsList-at c.enumerate-i-items.ensures.source
    (YieldsList-from_slice_split _ (λ b. eqb b 10) c.args.text.now c.split.ensures.rest c.split.ensures.done c.split.ensures.closure (λ x r q k. search (rules, tests)))) c.enumerate-i-items.ensures.count)) c.in-None.is in
    ap (recipes_from 1) (sym (slice_split-split 10 c.args.text.now)) ∙ c.loop-i.invariant ∙ ap (λ l. ahead (map told_of (vec_items c.loop-i.recipes)) (recipes_from (suc (length c.loop-i.yielded)) l)) e ∙ ahead_all _
