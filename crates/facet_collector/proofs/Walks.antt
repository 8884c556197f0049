-- One step of the walk over the terms, by where the child of the next term ends. Assumes nothing.
use Rattle.std.proofs.Common.{◌≡◌, ℕ, ◌+◌, ◌-◌, ◌<◌, ◌≤◌, true, List, [], length, get_or, take, Some, None, sym, ap, ◌∙◌, subst, arith}
use Rattle.facet_collector.specs.Children.{requestable, leads, children, collapsed, first_below, place_in}
use Rattle.facet_collector.specs.Requests.{Sought, Ends, Walked, Told}
use Rattle.facet_collector.proofs.Steps.{Ascends, slot_some, collapsed_some, walk_none, walk_same, same_place, walk_new, new_place, too_many}

module _ (rs ts : List (List ℕ)) (ok : requestable rs ≡ true) (up : Ascends ts) (i : ℕ) (l : i < length ts) (at n : ℕ) (child : List ℕ) (first : ℕ) (w : Walked rs ts i at n child first) (t : List ℕ) (is : t ≡ get_or ts i []) (at' : ℕ) (s : Sought rs t at') where
  s' : Sought rs (get_or ts i []) at'
  s' = subst (λ (x : List ℕ). Sought rs x at') is s

  pub step_none : length (leads rs t) ≡ 0 → Told rs ts i None × Walked rs ts (i + 1) at' n child first
  step_none z = let h = ap (λ x. length (leads rs x)) (sym is) ∙ z in (h, walk_none rs ts ok up i l at n child first w at' s' h)

  module _ (end deep : ℕ) (e : Ends rs t end deep) where
    some : 0 < length (leads rs (get_or ts i []))
    some = let m = e.length_is ∙ ap (λ x. length (leads rs x)) is in let z = e.some in omega arith

    front_is : take end t ≡ leads rs (get_or ts i [])
    front_is = e.child ∙ ap (leads rs) is

    maps : (b : ℕ) → b ≡ first_below ts (leads rs (get_or ts i [])) → ◌≡◌ {A = ℕ × ℕ} (b, deep) (collapsed rs ts i)
    maps b q =
        let (r, found, d) = (subst (λ (x : List ℕ). Ends rs x end deep) is e).request in (λ j. (q j, d j)) ∙ sym (collapsed_some rs ts i r found some)

    pub step_same : take end t ≡ child → Told rs ts i (Some ((first, deep), n - 1)) × Walked rs ts (i + 1) at' n child first
    step_same q =
        let c = sym front_is ∙ q in
        let (p, b) = same_place rs ts ok up i l at n child first w at' s' some c in
        let k = slot_some (children rs ts) (leads rs (get_or ts i [])) some in
        ((maps first b, let m : n - 1 ≡ place_in (children rs ts) (leads rs (get_or ts i [])) = omega arith in ap Some m ∙ sym k), walk_same rs ts ok up i l at n child first w at' s' some c)

    pub some_children : take end t ≡ child → 0 < n
    some_children q = let (p, b) = same_place rs ts ok up i l at n child first w at' s' some (sym front_is ∙ q) in omega arith

    module _ (q : take end t ≡ child → ⊥) where
      pub step_new : n < 128 → Told rs ts i (Some ((i, deep), n)) × Walked rs ts (i + 1) at' (n + 1) (take end t) i
      step_new few =
          let (p, b) = new_place rs ts ok up i l at n child first w at' s' some (λ c. q (front_is ∙ c)) in
          let k = slot_some (children rs ts) (leads rs (get_or ts i [])) some in
          ((maps i b, ap Some (sym p) ∙ sym k), subst (λ (x : List ℕ). Walked rs ts (i + 1) at' (n + 1) x i) (sym front_is) (walk_new rs ts ok up i l at n child first w at' s' some (λ c. q (front_is ∙ c)) few))

      pub step_many : 128 ≤ n → 128 < length (children rs ts)
      step_many h = too_many rs ts ok up i l at n child first w at' s' some (λ c. q (front_is ∙ c)) h
