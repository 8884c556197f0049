use Rattle.std.proofs.Common.{◌≡◌, ℕ, ◌+◌, ◌<◌, List, [], ◌∷◌, ◌++◌, length, get_or, take, sym, ap, ◌∙◌, subst}
use Rattle.std.proofs.lemmas.List.{append_assoc, take_more}
use Rattle.recipes.specs.Counting.{Children}
use Rattle.recipes.proofs.Counts.{no_child_more, child_more}
use Rattle.recipes.proofs.count.children.Goals as goal
use Rattle.recipes.proofs.count.children.Goals.{in-Some+in_ok-insert, in_default}

-- the facets up to i, with that at i
seen_more : (seen fs : List (List ℕ)) (i : ℕ) (f : List ℕ) → i < length fs → f ≡ get_or fs i f → (seen ++ take i fs) ++ f ∷ [] ≡ seen ++ take (i + 1) fs
seen_more seen fs i f h e =
    append_assoc seen (take i fs) (f ∷ [])
    ∙ ap (λ (l : List (List ℕ)). seen ++ l) (ap (λ (g : List ℕ). take i fs ++ g ∷ []) e ∙ sym (take_more fs i f h))

pub loop-facet-preserved : goal.loop-facet-preserved
loop-facet-preserved c =
    let p = c.args.branch.now in
    subst (λ (l : List (List ℕ)). Children p l c.match-child_toward.children.keys) (seen_more _ _ c.loop-facet.facet-index _ c.loop-facet-test.true c.facet-item.is)
    (elim c.match-child_toward.branch [
      | in-Some+in_ok-insert w ↦
          subst (Children p _) (sym (ap (λ s. s.keys) w.children-is ∙ w.in_ok-insert.ensures.keys)) (child_more p _ _ _ c.loop-facet.invariant _ w.in-Some.ensures)
      | in_default w ↦
          subst (Children p _) (ap (λ s. s.keys) (sym w.children-is)) (no_child_more p _ _ _ c.loop-facet.invariant w.in_default.ensures)
    ])
