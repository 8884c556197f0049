-- A list of recipes as text: a recipe a line, a name and then its facets, with tabs between. Assumes nothing.
use Rattle.std.specs.Prelude.{◌≡◌, ℕ, suc, cond, List, [], ◌∷◌, length, drop, Ok, Err, vec_items, Result, ◌==◌}
use Rattle.facet.specs.declared.fault.FacetFault.{FacetFault}
use Rattle.facet.specs.Pieces.{split, first_piece}
use Rattle.facet.specs.Reading.{read}
use Rattle.recipes.specs.declared.fault.LineFault.{LineFault}
use Rattle.recipes.specs.declared.fault.ListFault.{ListFault}
use Rattle.recipes.specs.declared.fault.ListFault.TheVariants.{Line, Memory}
use Rattle.recipes.specs.declared.recipe.Recipe.{Recipe}
use Rattle.recipes.specs.Recipes.{held_by}

-- a text that is refused: its line, counted from 1, its field, counted from 0 at the name, the text and the refusal
pub record Refusal : Type 0 where
  pub line : ℕ
  pub field : ℕ
  pub text : List ℕ
  pub fault : FacetFault

abbrev pub told_by : LineFault → Refusal
told_by f = record { line = f.line; field = f.field; text = f.text.now; fault = f.fault }

-- one more in front, unless there is a refusal here or behind
abbrev pub first : {X : Type 0} → Result X Refusal → Result (List X) Refusal → Result (List X) Refusal
first (Err e) r = Err e
first (Ok x) (Err e) = Err e
first (Ok x) (Ok xs) = Ok (x ∷ xs)

-- the refusal of a text with its place
abbrev pub placed : ℕ → ℕ → List ℕ → Result (List ℕ) FacetFault → Result (List ℕ) Refusal
placed n k text (Ok f) = Ok f
placed n k text (Err e) = Err (record { line = n; field = k; text = text; fault = e })

-- the facets of the fields from k on
abbrev pub facets_from : ℕ → ℕ → List (List ℕ) → Result (List (List ℕ)) Refusal
facets_from n k [] = Ok []
facets_from n k (t ∷ ts) = first (placed n k t (read t)) (facets_from n (suc k) ts)

-- a line without the carriage return that may end it
abbrev pub bare : List ℕ → List ℕ
bare [] = []
bare (b ∷ []) = cond (b == 13) [] (b ∷ [])
bare (b ∷ c ∷ bs) = b ∷ bare (c ∷ bs)

-- the facets of a recipe, with its name
abbrev pub named : List ℕ → Result (List (List ℕ)) Refusal → Result (List ℕ × List (List ℕ)) Refusal
named name (Ok fs) = Ok (name, fs)
named name (Err e) = Err e

-- the recipe of line n: its first field is the name, the others are the facets
abbrev pub recipe_of : ℕ → List ℕ → Result (List ℕ × List (List ℕ)) Refusal
recipe_of n l = named (first_piece 9 l) (facets_from n 1 (drop 1 (split 9 l)))

-- the recipes of the lines from n on; a line with nothing in it is no recipe
abbrev pub recipes_from : ℕ → List (List ℕ) → Result (List (List ℕ × List (List ℕ))) Refusal
recipes_from n [] = Ok []
recipes_from n (l ∷ ls) = cond (length (bare l) == 0) (recipes_from (suc n) ls) (first (recipe_of n (bare l)) (recipes_from (suc n) ls))

-- the recipes of a text, one for each line that is not empty
abbrev pub recipes_of : List ℕ → Result (List (List ℕ × List (List ℕ))) Refusal
recipes_of text = recipes_from 1 (split 10 text)

-- ---- what the calls answer

-- a recipe's name and facets
abbrev pub told_of : Recipe → List ℕ × List (List ℕ)
told_of r = (vec_items r.name, held_by r)

-- the answer is as told, unless memory is wanting
abbrev pub Answers : {X Y : Type 0} → (Y → X) → Result X Refusal → Result Y ListFault → Type 0
Answers f told (Ok y) = told ≡ Ok (f y)
Answers f told (Err (Line e)) = told ≡ Err (told_by e)
Answers f told (Err Memory) = Unit {0}
