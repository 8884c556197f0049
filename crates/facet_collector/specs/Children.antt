-- The children of requested facets that terms lead to. Assumes nothing.
use Rattle.std.specs.Prelude.{ℕ, suc, ◌+◌, Bool, false, cond, not, ◌&&◌, ◌||◌, List, [], ◌∷◌, map, length, take, drop, Some, None, Option, slice_index_or}
use Rattle.facet.specs.Paths.{above, at_or_below, child_offset, depth, first_step, order}
use Rattle.std.specs.List.{list_all}
use Rattle.std.specs.Ordering.{match_ordering as by_order}
use Rattle.std.specs.Str.{bytes_eq}
use Rattle.facet_collector.specs.Ascents.{is_strictly_sorted_by}

-- ---- requested facets

-- neither is above the other
abbrev pub apart : List ℕ → List ℕ → Bool
apart r q = not (above r q) && not (above q r)

-- requested facets: ascending, and none above another
abbrev pub requestable : List (List ℕ) → Bool
requestable rs = is_strictly_sorted_by order rs && list_all (λ r. list_all (apart r) rs) rs

-- the requested facet that is above t, if there is one
abbrev pub request_of : List (List ℕ) → List ℕ → Option (List ℕ)
request_of [] t = None
request_of (r ∷ rs) t = cond (above r t) (Some r) (request_of rs t)

-- ---- the child that a term leads to

-- of r, above t: up to the end of the step behind r and its separator
abbrev pub child_toward : List ℕ → List ℕ → List ℕ
child_toward r t = take (child_offset r + length (first_step (drop (child_offset r) t))) t

abbrev pub towards : Option (List ℕ) → List ℕ → List ℕ
towards None t = []
towards (Some r) t = child_toward r t

-- of a requested facet, or nothing
abbrev pub leads : List (List ℕ) → List ℕ → List ℕ
leads rs t = towards (request_of rs t) t

-- c in its place among others, once
abbrev pub insert : List ℕ → List (List ℕ) → List (List ℕ)
insert c [] = c ∷ []
insert c (d ∷ ds) = by_order (order c d) (c ∷ d ∷ ds) (d ∷ ds) (d ∷ insert c ds)

-- where it is something
abbrev pub insert_some : List ℕ → List (List ℕ) → List (List ℕ)
insert_some [] cs = cs
insert_some (x ∷ c) cs = insert (x ∷ c) cs

-- all children that terms lead to, behind those that are there
abbrev pub children_from : List (List ℕ) → List (List ℕ) → List (List ℕ) → List (List ℕ)
children_from rs cs [] = cs
children_from rs cs (t ∷ ts) = children_from rs (insert_some (leads rs t) cs) ts

abbrev pub children : List (List ℕ) → List (List ℕ) → List (List ℕ)
children rs ts = children_from rs [] ts

abbrev pub member : List (List ℕ) → List ℕ → Bool
member [] c = false
member (d ∷ ds) c = bytes_eq d c || member ds c

-- each with the count 1
abbrev pub ones : List (List ℕ) → List (List ℕ × ℕ)
ones cs = map (λ c. (c, 1)) cs

-- ---- the collapse mapping

-- the first place whose term is at or below c
abbrev pub first_below : List (List ℕ) → List ℕ → ℕ
first_below [] c = 0
first_below (t ∷ ts) c = cond (at_or_below t c) 0 (suc (first_below ts c))

-- stands for no child
abbrev pub nothing : ℕ × ℕ
nothing = (4294967295, 0)

-- the first ordinal at or below the child, and the requested facet's depth
abbrev pub collapsed_to : List (List ℕ) → List ℕ → ℕ → ℕ × ℕ
collapsed_to ts [] d = nothing
collapsed_to ts (x ∷ c) d = (first_below ts (x ∷ c), d)

abbrev pub collapsed_by : List (List ℕ) → Option (List ℕ) → List ℕ → ℕ × ℕ
collapsed_by ts None t = nothing
collapsed_by ts (Some r) t = collapsed_to ts (child_toward r t) (depth r)

-- what an ordinal maps to
abbrev pub collapsed : List (List ℕ) → List (List ℕ) → ℕ → ℕ × ℕ
collapsed rs ts o = collapsed_by ts (request_of rs (slice_index_or ts o [])) (slice_index_or ts o [])

-- the place of c among others, their number where it is not there
abbrev pub place_in : List (List ℕ) → List ℕ → ℕ
place_in [] c = 0
place_in (d ∷ ds) c = cond (bytes_eq d c) 0 (suc (place_in ds c))

-- the last, or nothing
abbrev pub last_of : List (List ℕ) → List ℕ
last_of [] = []
last_of (c ∷ []) = c
last_of (c ∷ d ∷ ds) = last_of (d ∷ ds)

-- the number of an ordinal's child
abbrev pub slot_of : List (List ℕ) → List ℕ → Option ℕ
slot_of cs [] = None
slot_of cs (x ∷ c) = Some (place_in cs (x ∷ c))
