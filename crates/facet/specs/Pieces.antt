-- Bytes cut at a separator. Assumes nothing.
use Rattle.std.specs.Prelude.{ℕ, cond, List, [], ◌∷◌, ◌++◌, ◌==◌}

-- the first piece with one byte more in front
abbrev pub grow : ℕ → List (List ℕ) → List (List ℕ)
grow b [] = (b ∷ []) ∷ []
grow b (p ∷ ps) = (b ∷ p) ∷ ps

-- the pieces between the separators, of which there is one more than separators
abbrev pub split : ℕ → List ℕ → List (List ℕ)
split sep [] = [] ∷ []
split sep (b ∷ bs) = cond (b == sep) ([] ∷ split sep bs) (grow b (split sep bs))

-- the bytes before the first separator
abbrev pub first_piece : ℕ → List ℕ → List ℕ
first_piece sep [] = []
first_piece sep (b ∷ bs) = cond (b == sep) [] (b ∷ first_piece sep bs)

-- the pieces, with a separator between any two
abbrev pub join : ℕ → List (List ℕ) → List ℕ
join sep [] = []
join sep (p ∷ []) = p
join sep (p ∷ q ∷ ps) = p ++ sep ∷ join sep (q ∷ ps)
