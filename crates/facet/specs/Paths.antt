-- Facets as paths, by their encodings. Assumes nothing.
use Rattle.std.specs.Prelude.{ℕ, suc, Bool, true, false, ◌&&◌, ◌||◌, List, [], ◌∷◌, ◌++◌, length, ◌==◌}
use Rattle.std.specs.declared.cmp.Ordering.{Ordering}
use Rattle.facet.specs.Pieces.{split, first_piece}
use Rattle.std.specs.Cmp.Lexicographic.{slice_cmp}
use Rattle.std.specs.Str.{bytes_eq}
use Rattle.std.specs.Ordering.{nat_cmp}

-- the steps of a facet: the root has none, any other has its steps joined by byte 00
abbrev pub steps : List ℕ → List (List ℕ)
steps [] = []
steps (b ∷ bs) = split 0 (b ∷ bs)

abbrev pub depth : List ℕ → ℕ
depth f = length (steps f)

-- the bytes before the first byte 00
abbrev pub first_step : List ℕ → List ℕ
first_step f = first_piece 0 f

-- f begins with p
abbrev pub begins : List ℕ → List ℕ → Bool
begins [] f = true
begins (a ∷ p) [] = false
begins (a ∷ p) (b ∷ f) = a == b && begins p f

-- p is above f: the root above any other, and p above what begins with it and then byte 00
abbrev pub above : List ℕ → List ℕ → Bool
above [] [] = false
above [] (b ∷ f) = true
above (a ∷ p) f = begins ((a ∷ p) ++ 0 ∷ []) f

-- f is c, or c is above it
abbrev pub at_or_below : List ℕ → List ℕ → Bool
at_or_below f c = bytes_eq f c || above c f

-- c stands below p with one step more
abbrev pub child : List ℕ → List ℕ → Bool
child p c = above p c && depth c == suc (depth p)

-- where in a facet below p the step of p's child begins: behind p and its separator
abbrev pub child_offset : List ℕ → ℕ
child_offset [] = 0
child_offset (a ∷ p) = suc (length (a ∷ p))

-- the order of facets: by unsigned bytes, a proper prefix first
abbrev pub order : List ℕ → List ℕ → Ordering
order f g = slice_cmp nat_cmp f g
