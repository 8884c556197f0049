-- What a collector sees of a segment: its documents and what its fields hold, wherever the tables lie. Assumes nothing.
use Rattle.std.specs.Prelude.{ℕ, Bool, List, map, Some, None, Option}
use Rattle.segment.specs.declared.field.Field.{Field}
use Rattle.segment.specs.declared.field.Kind.{Kind}
use Rattle.segment.specs.declared.field.Kind.TheVariants.{Facet, Other}
use Rattle.segment.specs.declared.segment.Segment.{Segment}
use Rattle.segment.specs.Items.{items}
use Rattle.segment.specs.Made.{docs_of, fields_of, alive as is_alive}

-- the terms of a facet field, by ordinal, and for each document the ordinals of the terms that it holds
pub record FacetField : Type 0 where
  pub terms : List (List ℕ)
  pub rows : List (List ℕ)

-- a name, and what a facet field holds, or nothing for another kind
pub record Named : Type 0 where
  pub name : List ℕ
  pub facets : Option FacetField

pub record Contents : Type 0 where
  pub docs : ℕ
  pub alive : ℕ → Bool
  pub fields : List Named

abbrev pub facets_of : Kind → Option FacetField
facets_of (Facet t) = Some (record { terms = items t.term_ends.now t.term_bytes.now; rows = items t.row_ends.now t.ordinals.now })
facets_of Other = None

abbrev pub named_of : Field → Named
named_of f = record { name = f.name.now; facets = facets_of f.kind }

abbrev pub contents : Segment → Contents
contents s = record { docs = docs_of s; alive = is_alive s; fields = map named_of (fields_of s) }
