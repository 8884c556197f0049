-- The test that a list ascends, and what it tells. Assumes nothing.
use Rattle.std.proofs.Common.{◌≡◌, true, List, [], ◌∷◌, Ordering, Less, Equal, Greater, sym, refl, ap}
use Rattle.std.proofs.lemmas.Bool.{and_parts, and_from, true≢false}
use Rattle.std.specs.List.Sorted.{IsStrictlySortedBy}
use Rattle.std.specs.List.{list_all, AllByRecursion}
use Rattle.std.specs.Ordering.{is_lt}
use Rattle.facet_collector.specs.Ascents.{is_strictly_sorted_by}

module _ {K : Type 0} (c : K → K → Ordering) where
  is_less : (o : Ordering) → is_lt o ≡ true → o ≡ Less
  is_less Less e = refl
  is_less Equal e = absurd (true≢false (sym e))
  is_less Greater e = absurd (true≢false (sym e))

  all_less : (x : K) (ys : List K) → list_all (λ y. is_lt (c x y)) ys ≡ true → AllByRecursion (λ y. c x y ≡ Less) ys
  all_less x [] h = tt
  all_less x (y ∷ ys) h = let (a, b) = and_parts (is_lt (c x y)) (list_all (λ y. is_lt (c x y)) ys) h in (is_less (c x y) a, all_less x ys b)

  all_pass : (x : K) (ys : List K) → AllByRecursion (λ y. c x y ≡ Less) ys → list_all (λ y. is_lt (c x y)) ys ≡ true
  all_pass x [] h = refl
  all_pass x (y ∷ ys) h = and_from (is_lt (c x y)) (list_all (λ y. is_lt (c x y)) ys) (ap is_lt h.0) (all_pass x ys h.1)

  pub sorted_from_test : (xs : List K) → is_strictly_sorted_by c xs ≡ true → IsStrictlySortedBy c xs
  unfolding IsStrictlySortedBy
  sorted_from_test [] h = tt
  sorted_from_test (x ∷ xs) h =
      let (a, b) = and_parts (list_all (λ y. is_lt (c x y)) xs) (is_strictly_sorted_by c xs) h in (all_less x xs a, sorted_from_test xs b)

  pub test_from_sorted : (xs : List K) → IsStrictlySortedBy c xs → is_strictly_sorted_by c xs ≡ true
  unfolding IsStrictlySortedBy
  test_from_sorted [] r = refl
  test_from_sorted (x ∷ xs) r = and_from (list_all (λ y. is_lt (c x y)) xs) (is_strictly_sorted_by c xs) (all_pass x xs r.0) (test_from_sorted xs r.1)
