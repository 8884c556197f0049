-- The text of a facet. Assumes nothing.
use Rattle.std.specs.Prelude.{ℕ, Bool, true, false, cond, ◌||◌, List, [], ◌∷◌, Option, Some, None, ◌==◌}
use Rattle.std.specs.List.{flat_map}
use Rattle.facet.specs.Paths.{steps}

-- what the text behind the first slash stands for: a slash ends a step, a backslash is dropped and the byte behind it
-- taken as it is; at true the last byte was such a backslash
abbrev pub unescaped : Bool → List ℕ → List ℕ
unescaped true [] = []
unescaped true (b ∷ bs) = b ∷ unescaped false bs
unescaped false [] = []
unescaped false (b ∷ bs) = cond (b == 92) (unescaped true bs) (cond (b == 47) 0 b ∷ unescaped false bs)

-- a step with a backslash before each slash and each backslash
abbrev pub escaped : List ℕ → List ℕ
escaped [] = []
escaped (b ∷ bs) = cond (b == 47 || b == 92) (92 ∷ b ∷ escaped bs) (b ∷ escaped bs)

-- the text of a facet: a slash before each step, and one slash for the root
abbrev pub printed : List ℕ → List ℕ
printed [] = 47 ∷ []
printed (b ∷ bs) = flat_map (λ (step : List ℕ). 47 ∷ escaped step) (steps (b ∷ bs))

-- the text of one byte of an encoding
abbrev pub shown : ℕ → List ℕ
shown b = cond (b == 0) (47 ∷ []) (cond (b == 47 || b == 92) (92 ∷ b ∷ []) (b ∷ []))

-- the text of an encoding behind a byte that is still to come
abbrev pub shown_behind : Option ℕ → List ℕ → List ℕ
shown_behind None f = flat_map shown f
shown_behind (Some b) f = b ∷ flat_map shown f
