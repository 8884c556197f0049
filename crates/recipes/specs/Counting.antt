-- How many recipes stand at or below a branch, each once. Assumes nothing.
use Rattle.std.specs.Prelude.{◌≡◌, ℕ, ◌<◌, Bool, true, cond, List, [], ◌∷◌, map, count_by, nat_le}
use Rattle.std.specs.declared.cmp.Ordering.TheVariants.{Less}
use Rattle.facet.specs.Paths.{at_or_below, child, order}
use Rattle.std.specs.List.{AllByRecursion, list_all, list_any}
use Rattle.std.specs.Str.{bytes_eq}

-- some of the facets is at or below c
abbrev pub holds : List (List ℕ) → List ℕ → Bool
holds fs c = list_any (λ f. at_or_below f c) fs

-- how many recipes hold something at or below c
abbrev pub recipes_at : List (List (List ℕ)) → List ℕ → ℕ
recipes_at rs c = count_by (λ r. holds r c) rs

-- the count at c, 0 without an entry
abbrev pub count_of : List (List ℕ × ℕ) → List ℕ → ℕ
count_of [] c = 0
count_of (e ∷ es) c = cond (bytes_eq e.0 c) e.1 (count_of es c)

-- each stands before the next in the order of facets
abbrev pub Ascending : List (List ℕ) → Type 0
Ascending [] = Unit {0}
Ascending (f ∷ []) = Unit {0}
Ascending (f ∷ g ∷ fs) = (order f g ≡ Less) × Ascending (g ∷ fs)

-- the entries below p: at each child of p the number of recipes, an entry exactly where that is above 0, and no others
pub record Counted (rs : List (List (List ℕ))) (p : List ℕ) (es : List (List ℕ × ℕ)) : Type 0 where
  pub counts : (c : List ℕ) → child p c ≡ true → count_of es c ≡ recipes_at rs c
  pub entries : AllByRecursion (λ (e : List ℕ × ℕ). (child p e.0 ≡ true) × (0 < e.1)) es
  pub ascending : Ascending (map (λ (e : List ℕ × ℕ). e.0) es)

-- every entry has the least count
abbrev pub all_reach : ℕ → List (List ℕ × ℕ) → Bool
all_reach n es = list_all (λ e. nat_le n e.1) es

-- ---- the children in order

abbrev pub member : List (List ℕ) → List ℕ → Bool
member fs c = list_any (λ f. bytes_eq f c) fs

-- the children of p that some of the facets is at or below, in order
pub record Children (p : List ℕ) (fs : List (List ℕ)) (cs : List (List ℕ)) : Type 0 where
  pub sound : AllByRecursion (λ (c : List ℕ). (child p c ≡ true) × (holds fs c ≡ true)) cs
  pub whole : (d : List ℕ) → child p d ≡ true → holds fs d ≡ true → member cs d ≡ true
  pub ascending : Ascending cs
