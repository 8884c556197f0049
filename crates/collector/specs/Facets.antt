-- Documents counted by facet. Assumes nothing.
use Rattle.std.specs.Prelude.{◌≡◌, ℕ, ◌<◌, Bool, true, false, cond, ◌||◌, List, [], ◌∷◌, map, length, get_or, Some, None, filter, Option, slice_index_or}
use Rattle.std.specs.declared.cmp.Ordering.TheVariants.{Less}
use Rattle.facet.specs.Paths.{at_or_below, child, order}
use Rattle.std.specs.List.{AllByRecursion}
use Rattle.std.specs.Str.{bytes_eq}
use Rattle.collector.specs.Contents.{Named, FacetField}
use Rattle.collector.specs.Meaning.{Meaning, Collected, joined}

-- the first field of the name
abbrev pub field_named : List Named → List ℕ → Option Named
field_named [] name = None
field_named (f ∷ fs) name = cond (bytes_eq f.name name) (Some f) (field_named fs name)

-- the terms that a document holds in a field
abbrev pub terms_at : Option FacetField → ℕ → List (List ℕ)
terms_at None d = []
terms_at (Some f) d = map (λ o. get_or f.terms o []) (slice_index_or f.rows d [])

abbrev pub terms_in : Option Named → ℕ → List (List ℕ)
terms_in None d = []
terms_in (Some f) d = terms_at f.facets d

-- some of the facets is at or below c
abbrev pub holds : List (List ℕ) → List ℕ → Bool
holds [] c = false
holds (f ∷ fs) c = at_or_below f c || holds fs c

-- the document holds, in the field, something at or below c
abbrev pub holds_at : List ℕ → List ℕ → Collected → Bool
holds_at field c d = holds (terms_in (field_named d.segment.fields field) d.document) c

-- how many of the documents do
abbrev pub documents_at : List ℕ → List Collected → List ℕ → ℕ
documents_at field ds c = length (filter (holds_at field c) ds)

-- c is a child of a requested facet
abbrev pub requested_child : List (List ℕ) → List ℕ → Bool
requested_child [] c = false
requested_child (r ∷ rs) c = child r c || requested_child rs c

-- the count at c, 0 without an entry
abbrev pub count_of : List (List ℕ × ℕ) → List ℕ → ℕ
count_of [] c = 0
count_of (e ∷ es) c = cond (bytes_eq e.0 c) e.1 (count_of es c)

-- each stands before the next in the order of facets
abbrev pub Ascending : List (List ℕ) → Type 0
Ascending [] = Unit {0}
Ascending (f ∷ []) = Unit {0}
Ascending (f ∷ g ∷ fs) = (order f g ≡ Less) × Ascending (g ∷ fs)

-- the entries of documents: at each child of a requested facet the number of them that hold something at or below it, an
-- entry exactly where that is above 0, and no others
pub record Counted (field : List ℕ) (requests : List (List ℕ)) (ds : List Collected) (es : List (List ℕ × ℕ)) : Type 0 where
  pub counts : (c : List ℕ) → requested_child requests c ≡ true → count_of es c ≡ documents_at field ds c
  pub entries : AllByRecursion (λ (e : List ℕ × ℕ). (requested_child requests e.0 ≡ true) × (0 < e.1)) es
  pub ascending : Ascending (map (λ (e : List ℕ × ℕ). e.0) es)

-- a collector that counts facets: of which field, at the children of which facets, and how its values are read
pub record Faceted (W : Type 0) : Type 0 where
  pub field : List ℕ
  pub requests : List (List ℕ)
  pub entries : W → List (List ℕ × ℕ)

-- whatever documents it collects, of segments that it accepts, their entries are what it holds
abbrev pub CountsFacets : {W : Type 0} → Meaning W → Faceted W → Type 0
CountsFacets m f =
    (ds : List Collected) → AllByRecursion (λ (d : Collected). m.refusal d.segment ≡ None) ds → Counted f.field f.requests ds (f.entries (joined m ds))
