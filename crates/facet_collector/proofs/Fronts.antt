-- The front of a sorted list.
use Rattle.std.proofs.Common.{◌≡◌, ℕ, ◌+◌, ◌<◌, ◌≤◌, min, false, List, length, get_or, take, drop, Ordering, sym, subst, ◌∙◌, arith}
use Rattle.std.specs.Cmp.{IsTotalOrder}
use Rattle.std.specs.List.Sorted.{IsPermutation, IsSorted}
use Rattle.std.specs.Ordering.{is_lt}
use Rattle.std.proofs.lemmas.List.{get_or-drop, get_or-take, get_or_default, length-drop, length-take-le, take-append-drop}
use Rattle.std.proofs.lemmas.List.Sorted.{length_permutation, ranks_by, sorted_far}
use Rattle.facet_collector.specs.Fronts.{IsFront}

module _ {X : Type 0} {R : X → X → Ordering} (o : IsTotalOrder R) where
  far : (ys : List X) → IsSorted R ys → (i j : ℕ) (d : X) → i ≤ j → j < length ys → is_lt (R (get_or ys j d) (get_or ys i d)) ≡ false
  far ys s = sorted_far (λ x y. is_lt (R x y)) (ranks_by o (λ x. x)) ys s

  pub front : (k n : ℕ) (xs ys : List X) → IsPermutation xs ys → IsSorted R ys → n ≡ min k (length xs) → IsFront R k xs (take n ys)
  front k n xs ys p s m =
      let l = length_permutation xs ys p in
      let n' : n ≤ length ys = omega arith in
      let t = length-take-le n ys n' in
      let b = length-drop n ys in
      record {
        left = drop n ys;
        parts = subst (IsPermutation xs) (sym (take-append-drop n ys)) p;
        ordered = λ i d _ h.
            subst (λ (x : X). is_lt (R x (get_or (take n ys) i d)) ≡ false) (sym (get_or-take n ys (i + 1) d (omega arith)))
            (subst (λ (x : X). is_lt (R (get_or ys (i + 1) d) x) ≡ false) (sym (get_or-take n ys i d (omega arith))) (far ys s i (i + 1) d (omega arith) (omega arith)));
        many = t ∙ m;
        first = λ j d h i e q.
            subst (λ (x : X). is_lt (R x (get_or (take n ys) i e)) ≡ false) (sym (get_or-drop n ys j d))
            (subst (λ (x : X). is_lt (R (get_or ys (n + j) d) x) ≡ false) (get_or_default ys i d e (omega arith) ∙ sym (get_or-take n ys i e (omega arith)))
            (far ys s i (n + j) d (omega arith) (omega arith)));
      }
