-- The test that a list ascends. Assumes nothing.
use Rattle.std.specs.Prelude.{Bool, true, ◌&&◌, List, [], ◌∷◌}
use Rattle.std.specs.List.{list_all}
use Rattle.std.specs.Ordering.{is_lt}
use Rattle.std.specs.declared.cmp.Ordering.{Ordering}

-- each is below those after it
abbrev pub is_strictly_sorted_by : {K : Type 0} → (K → K → Ordering) → List K → Bool
is_strictly_sorted_by c [] = true
is_strictly_sorted_by c (x ∷ xs) = list_all (λ y. is_lt (c x y)) xs && is_strictly_sorted_by c xs
