-- Documents with their scores, in the order in which they come. Assumes nothing.
use Rattle.std.specs.Prelude.{◌≡◌, ℕ, Bool, true, false, cond, ◌&&◌, List, [], ◌∷◌, map, pos, nat_lt, refl, Float}
use Rattle.std.specs.Float.{fin, binary32}
use Rattle.std.specs.Float.Ieee.{of_bits}
use Rattle.std.specs.List.{range_with_len}

-- stands after the last document
abbrev pub terminated : ℕ
terminated = 2147483647

-- the bits of 0.0
abbrev pub zero_score : Float
zero_score = of_bits binary32 0

-- the bits of 1.0
abbrev pub one_score : Float
one_score = of_bits binary32 1065353216

-- as numbers: a sign, a whole number and a power of two
pub scores_are : (zero_score ≡ fin false 0 (pos 0)) × (one_score ≡ fin false 1 (pos 0))
unfolding of_bits
scores_are = (refl, refl)

-- the first document, or the end
abbrev pub first_doc_of : List ℕ → ℕ
first_doc_of [] = terminated
first_doc_of (d ∷ ds) = d

-- whether each document is below the next, and the last below the end
abbrev pub rises : List ℕ → Bool
rises [] = true
rises (d ∷ ds) = nat_lt d (first_doc_of ds) && rises ds

-- the documents alone
abbrev pub docs_of : List (ℕ × Float) → List ℕ
docs_of ps = map (λ p. p.0) ps

-- documents that rise strictly below the end
abbrev pub Rising : List (ℕ × Float) → Type 0
Rising ps = rises (docs_of ps) ≡ true

-- the first document of pairs, or the end
abbrev pub first_doc : List (ℕ × Float) → ℕ
first_doc ps = first_doc_of (docs_of ps)

-- the first score, or 0.0
abbrev pub first_score : List (ℕ × Float) → Float
first_score [] = zero_score
first_score (p ∷ ps) = p.1

-- all but the first
abbrev pub rest : List (ℕ × Float) → List (ℕ × Float)
rest [] = []
rest (p ∷ ps) = ps

-- the n documents from d on, each with the score 1.0
abbrev pub all_from : ℕ → ℕ → List (ℕ × Float)
all_from d n = map (λ k. (k, one_score)) (range_with_len d n)

-- all documents below a number
abbrev pub all_below : ℕ → List (ℕ × Float)
all_below n = all_from 0 n

-- the pairs, or none where the first document is not above another
abbrev pub only_above : ℕ → List (ℕ × Float) → List (ℕ × Float)
only_above d ps = cond (nat_lt d (first_doc ps)) ps []

-- the pairs up to where the documents stop rising strictly below the end
abbrev pub rising_front : List (ℕ × Float) → List (ℕ × Float)
rising_front [] = []
rising_front (p ∷ ps) = cond (nat_lt p.0 terminated) (p ∷ only_above p.0 (rising_front ps)) []
