-- What a segment holds. Assumes nothing.
use Rattle.std.specs.Prelude.{◌≡◌, ℕ, zero, suc, Bool, true, false, cond, ◌&&◌, List, [], ◌∷◌, None, Option, nat_lt}
use Rattle.std.specs.Borrow.{Bor}
use Rattle.segment.specs.declared.column.Column.{Column}
use Rattle.segment.specs.declared.field.Field.{Field}
use Rattle.segment.specs.declared.field.Kind.{Kind}
use Rattle.segment.specs.declared.field.Kind.TheVariants.{Facet, Other}
use Rattle.segment.specs.declared.segment.Segment.{Segment}
use Rattle.segment.specs.Held.{terms_of, rows_of}
use Rattle.segment.specs.Tables.{table_terms, table_rows}
use Rattle.segment.specs.Segments.{whole, alive_in}

abbrev pub fields_of : Segment → List Field
fields_of s = s.fields.now

abbrev pub docs_of : Segment → ℕ
docs_of s = s.docs

-- it has these parts where they are whole, and is empty else
pub record PartsOf (s : Segment) (fs : List Field) (docs : ℕ) (set : Option (Bor (List ℕ))) : Type 0 where
  pub fields : fields_of s ≡ cond (whole fs docs set) fs []
  pub number : docs_of s ≡ cond (whole fs docs set) docs 0
  pub alive : s.alive ≡ cond (whole fs docs set) set None

-- the terms and rows of a field
abbrev pub kind_terms : Kind → List (List ℕ)
kind_terms (Facet t) = table_terms t
kind_terms Other = []

abbrev pub kind_rows : Kind → List (List ℕ)
kind_rows (Facet t) = table_rows t
kind_rows Other = []

abbrev pub is_facet : Kind → Bool
is_facet (Facet t) = true
is_facet Other = false

-- what is said of the field at a place, where there is one
abbrev pub at_field : {X : Type 0} → X → (Kind → X) → List Field → ℕ → X
at_field d f [] i = d
at_field d f (g ∷ gs) zero = f g.kind
at_field d f (g ∷ gs) (suc i) = at_field d f gs i

-- the column holds what the field at a place does, which is a facet field
pub record Facets (s : Segment) (place : ℕ) (c : Column) : Type 0 where
  pub facet : at_field false is_facet (fields_of s) place ≡ true
  pub terms : terms_of c ≡ at_field [] kind_terms (fields_of s) place
  pub rows : rows_of c ≡ at_field [] kind_rows (fields_of s) place

-- the documents of the segment that are alive
abbrev pub alive : Segment → ℕ → Bool
alive s d = nat_lt d (docs_of s) && alive_in s.alive d
