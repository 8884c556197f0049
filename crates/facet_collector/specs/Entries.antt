-- Counts by facet, as a list in the order of facets. Assumes nothing.
use Rattle.std.specs.Prelude.{ℕ, ◌+◌, Bool, ◌&&◌, List, [], ◌∷◌, length, filter, nat_le, nat_lt}
use Rattle.facet.specs.Paths.{above, order}
use Rattle.std.specs.List.{list_all}
use Rattle.std.specs.Ordering.{match_ordering as by_order}
use Rattle.facet_collector.specs.Ascents.{is_strictly_sorted_by}

-- n more at the facet f
abbrev pub put : List ℕ → ℕ → List (List ℕ × ℕ) → List (List ℕ × ℕ)
put f n [] = (f, n) ∷ []
put f n (e ∷ es) = by_order (order f e.0) ((f, n) ∷ e ∷ es) ((e.0, e.1 + n) ∷ es) (e ∷ put f n es)

-- the entries of both, where a facet of both has the sum
abbrev pub sums : List (List ℕ × ℕ) → List (List ℕ × ℕ) → List (List ℕ × ℕ)
sums xs [] = xs
sums xs (y ∷ ys) = sums (put y.0 y.1 xs) ys

-- the facets ascend, and each count is above 0
abbrev pub sound : List (List ℕ × ℕ) → Bool
sound es = is_strictly_sorted_by (λ x y. order x.0 y.0) es && list_all (λ e. nat_lt 0 e.1) es

-- at most 128 entries, each at most 4294967295
abbrev pub fits : List (List ℕ × ℕ) → Bool
fits es = nat_le (length es) 128 && list_all (λ e. nat_le e.1 4294967295) es

-- the entries strictly below p
abbrev pub below : List ℕ → List (List ℕ × ℕ) → List (List ℕ × ℕ)
below p es = filter (λ e. above p e.0) es
