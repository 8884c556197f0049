-- The laws of paths and of their text. Assumes nothing.
use Rattle.std.specs.Prelude.{◌≡◌, ℕ, ◌<◌, ◌≤◌, Bool, true, false, not, ◌&&◌, List, [], ◌∷◌, ◌++◌, length, drop, Ok, Err, codes, Result, ◌==◌, ◌≢◌}
use Rattle.std.specs.declared.cmp.Ordering.TheVariants.{Less, Greater}
use Rattle.std.specs.Str.{bytes_eq}
use Rattle.utf8.specs.Octets.{utf8}
use Rattle.facet.specs.declared.fault.FacetFault.{FacetFault}
use Rattle.facet.specs.declared.fault.FacetFault.TheVariants.{BufferTooShort}
use Rattle.facet.specs.Faults.{number_of}
use Rattle.facet.specs.Pieces.{join}
use Rattle.facet.specs.Paths.{steps, above, at_or_below, child, order}
use Rattle.facet.specs.Reading.{read}
use Rattle.facet.specs.Text.{printed}

-- "above" is a strict order
pub record StrictOrder : Type 0 where
  pub irreflexive : (f : List ℕ) → above f f ≡ false
  pub transitive : (p q f : List ℕ) → above p q ≡ true → above q f ≡ true → above p f ≡ true

-- what stands between p and f in the order of facets, both included, is at or below p
abbrev pub Together : List ℕ → List ℕ → Type 0
Together p f = (g : List ℕ) → (order p g ≢ Greater) → (order g f ≢ Greater) → at_or_below g p ≡ true

-- what `is_prefix_of` answers for p and f
pub record Prefix (p f : List ℕ) (r : Bool) : Type 0 where
  pub value : r ≡ above p f
  pub strict : StrictOrder
  pub before : r ≡ true → order p f ≡ Less
  pub together : r ≡ true → Together p f

-- c is the child of p on the way to f, and the only one
pub record OnTheWay (p f c : List ℕ) : Type 0 where
  pub is_child : child p c ≡ true
  pub leads : at_or_below f c ≡ true
  pub only : (d : List ℕ) → child p d ≡ true → at_or_below f d ≡ true → d ≡ c

-- no child of p leads to f
abbrev pub NoWay : List ℕ → List ℕ → Type 0
NoWay p f = (d : List ℕ) → child p d ≡ true → at_or_below f d ≢ true

-- a facet is its steps, joined by byte 00
abbrev pub StepsJoin : Type 0
StepsJoin = (f : List ℕ) → join 0 (steps f) ≡ f

-- the text of a facet is read as that facet
abbrev pub ReadsBack : Type 0
ReadsBack = (f : List ℕ) → length f ≤ 127 → utf8 f ≡ true → read (printed f) ≡ Ok f

-- the text of f is short, and UTF-8, and read as f
pub record IsTextOf (f text : List ℕ) : Type 0 where
  pub bound : length text ≤ 255
  pub is_utf8 : utf8 text ≡ true
  pub reads_back : read text ≡ Ok f

-- a text is written whole at the front of a buffer that it fits, and else not at all
abbrev pub Printed : List ℕ → List ℕ → Result ℕ FacetFault → List ℕ → Type 0
Printed text buffer (Ok n) after = (n ≡ length text) × (length text ≤ length buffer) × (after ≡ text ++ drop n buffer)
Printed text buffer (Err e) after = (e ≡ BufferTooShort) × (length buffer < length text) × (after ≡ buffer)

-- ---- worked cases

abbrev pub answers : List ℕ → Result (List ℕ) FacetFault → Bool
answers f (Ok g) = bytes_eq f g
answers f (Err e) = false

abbrev pub refuses : ℕ → Result (List ℕ) FacetFault → Bool
refuses n (Ok g) = false
refuses n (Err e) = number_of e == n

-- a row for each case
abbrev pub worked : List Bool
worked =
    answers [] (read (codes "/"))
    ∷ refuses 3 (read [])
    ∷ refuses 3 (read (codes "a"))
    ∷ answers (codes "a/b") (read (codes "/a" ++ 92 ∷ codes "/b"))
    ∷ answers (codes "a") (read (codes "/a" ++ 92 ∷ []))
    ∷ bytes_eq (codes "/a" ++ 92 ∷ 92 ∷ codes "b") (printed (codes "a" ++ 92 ∷ codes "b"))
    ∷ above (codes "a") (codes "a" ++ 0 ∷ codes "x")
    ∷ not (above (codes "a") (codes "ab"))
    ∷ not (above [] [])
    ∷ []

abbrev pub all : List Bool → Bool
all [] = true
all (t ∷ ts) = t && all ts

abbrev pub WorkedCases : Type 0
WorkedCases = all worked ≡ true
