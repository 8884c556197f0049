-- What a recipe and an entry mean. Assumes nothing.
use Rattle.std.specs.Prelude.{ℕ, List, ◌∷◌, ◌++◌, decimal, vec_items}
use Rattle.facet.specs.Text.{printed}
use Rattle.recipes.specs.Counting.{recipes_at}
use Rattle.recipes.specs.declared.recipe.Recipe.{Recipe}

-- the facets that a recipe is filed under, by their encodings
abbrev pub held_by : Recipe → List (List ℕ)
held_by r = vec_items r.facets

-- the entry of a child
abbrev pub entry_at : List (List (List ℕ)) → List ℕ → List ℕ × ℕ
entry_at rs c = (c, recipes_at rs c)

-- the text of an entry: its count in decimal, a tab, and the text of its facet
abbrev pub entry_text : List ℕ × ℕ → List ℕ
entry_text e = decimal e.1 ++ 9 ∷ printed e.0
