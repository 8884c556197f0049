-- What counting documents by facet means. Assumes nothing.
use Rattle.std.specs.Prelude.{ℕ, false, cond, List, [], length, Some, None, Option, nat_le}
use Rattle.collector.specs.Contents.{FacetField, Named}
use Rattle.collector.specs.Facets.{Faceted, field_named, terms_in}
use Rattle.collector.specs.Meaning.{Meaning}
use Rattle.collector.specs.declared.fault.OpeningFault.{OpeningFault}
use Rattle.collector.specs.declared.fault.OpeningFault.TheVariants.{NoField, NotFacets, TooManyChildren}
use Rattle.facet_collector.specs.Children.{children, ones}
use Rattle.facet_collector.specs.Entries.{sums, sound, fits as fitting}

-- the terms lead to at most 128 children of requested facets
abbrev pub facets_refusal : List (List ℕ) → Option FacetField → Option OpeningFault
facets_refusal rs None = Some NotFacets
facets_refusal rs (Some f) = cond (nat_le (length (children rs f.terms)) 128) None (Some TooManyChildren)

-- the field is there, holds facets, and leads to few enough children
abbrev pub field_refusal : List (List ℕ) → Option Named → Option OpeningFault
field_refusal rs None = Some NoField
field_refusal rs (Some f) = facets_refusal rs f.facets

-- a document is worth 1 at each child of a requested facet that it holds something at or below
abbrev pub facet_m : List ℕ → List (List ℕ) → Meaning (List (List ℕ × ℕ))
facet_m field rs = record {
  blank = [];
  join = sums;
  worth = λ n s d x. ones (children rs (terms_in (field_named s.fields field) d));
  refusal = λ s. field_refusal rs (field_named s.fields field);
  fits = fitting;
  scored = false;
  has = sound;
}

-- what it says that it counts
abbrev pub faceted : List ℕ → List (List ℕ) → Faceted (List (List ℕ × ℕ))
faceted field rs = record { field = field; requests = rs; entries = λ es. es }
