-- Items that stand one behind the other in one list, by their ends. Assumes nothing.
use Rattle.std.specs.Prelude.{ℕ, zero, suc, ◌<◌, ◌≤◌, Bool, cond, List, [], ◌∷◌, length, Some, None, Option, slice_index, slice_range}

-- where item i starts: at the end before it, and at 0 for the first
abbrev pub start_of : List ℕ → ℕ → ℕ
start_of ends i = slice_index (0 ∷ ends) i

abbrev pub end_of : List ℕ → ℕ → ℕ
end_of ends i = slice_index ends i

-- the items from s on
abbrev pub items_from : {X : Type 0} → ℕ → List ℕ → List X → List (List X)
items_from s [] xs = []
items_from s (e ∷ es) xs = slice_range xs s e ∷ items_from e es xs

abbrev pub items : {X : Type 0} → List ℕ → List X → List (List X)
items ends xs = items_from 0 ends xs

-- the last end, 0 without one
abbrev pub last_end : List ℕ → ℕ
last_end ends = start_of ends (length ends)

-- the first of n places, from i on, that fails the test
abbrev pub first_failing : (ℕ → Bool) → ℕ → ℕ → Option ℕ
first_failing test i zero = None
first_failing test i (suc n) = cond (test i) (first_failing test (suc i) n) (Some i)

-- item i stands within n
abbrev pub Within : List ℕ → ℕ → ℕ → Type 0
Within ends n i = (i < length ends) × (start_of ends i ≤ end_of ends i) × (end_of ends i ≤ n)

-- each item does
abbrev pub AllWithin : List ℕ → ℕ → Type 0
AllWithin ends n = (i : ℕ) → i < length ends → Within ends n i
