-- The first of a list by an order. Assumes nothing.
use Rattle.std.specs.Prelude.{◌≡◌, ℕ, min, false, List, ◌++◌, length}
use Rattle.std.specs.List.{All}
use Rattle.std.specs.List.Sorted.{IsPermutation, IsSorted}
use Rattle.std.specs.Ordering.{is_lt}
use Rattle.std.specs.declared.cmp.Ordering.{Ordering}

-- ys are the first k of xs, or all of them: with what is left out they are the elements of xs, each as often as it is there
pub record IsFront {X : Type 0} (cmp : X → X → Ordering) (k : ℕ) (xs ys : List X) : Type 0 where
  pub left : List X
  pub parts : IsPermutation xs (ys ++ left)
  pub ordered : IsSorted cmp ys
  pub many : length ys ≡ min k (length xs)
  -- nothing left out stands before one that is there
  pub first : All (λ x. All (λ y. is_lt (cmp x y) ≡ false) ys) left
