use Rattle.std.proofs.Common.{◌≡◌, ◌<◌, not, false, [], length, get_or, is_some, None, subst, sym, ap, ◌∙◌}
use Rattle.segment.specs.declared.field.Field.{Field}
use Rattle.segment.specs.declared.field.Kind.{Kind}
use Rattle.segment.specs.declared.field.Kind.TheVariants.{Facet}
use Rattle.segment.specs.Fields.{kind_fault}
use Rattle.segment.specs.Made.{kind_terms, kind_rows, is_facet, fields_of}
use Rattle.segment.proofs.Segments.{at_field_kind, no_field, columns_sound}
use Rattle.segment.proofs.segment.Segment.facets.Goals as goal
use Rattle.segment.proofs.segment.Segment.facets.Goals.{In-Facet}

pub returns-in_err-tables : goal.returns-in_err-tables
returns-in_err-tables c = rw c.from_residual.ensures (no_field false is_facet (fields_of c.args.self.now) c.args.place c.in_err-tables.ensures.lookup.3)

-- the field at the place is a facet field
module _ (c : In-Facet) where
  field : Field
  field = c.in_ok-tables.field-0.now

  within : c.args.place < length (fields_of c.args.self.now)
  within = c.in_ok-tables.ensures.lookup.3.0

  kind_is : (get_or (fields_of c.args.self.now) c.args.place field).kind ≡ Facet c.in-Facet.tables
  unfolding field
  kind_is = ap (λ (f : Field). f.kind) (sym c.in_ok-tables.ensures.lookup.1) ∙ c.in-Facet.is

pub checked-requires : goal.checked-requires
checked-requires c = ap (λ o. not (is_some o)) (subst (λ (k : Kind). kind_fault k ≡ None) (kind_is c) (columns_sound c.args.self.now c.args.place (field c) (within c)))

pub returns-in-Facet : goal.returns-in-Facet
returns-in-Facet c =
    let b = (goal.at.returns-in-Facet c).In-Facet in
    let fs = fields_of c.args.self.now in
    let i = c.args.place in
    record {
      facet = at_field_kind false is_facet fs i (field b) (within b) ∙ ap is_facet (kind_is b);
      terms = c.checked.ensures.terms ∙ sym (at_field_kind [] kind_terms fs i (field b) (within b) ∙ ap kind_terms (kind_is b));
      rows = c.checked.ensures.rows ∙ sym (at_field_kind [] kind_rows fs i (field b) (within b) ∙ ap kind_rows (kind_is b));
    }

pub returns-in-Other : goal.returns-in-Other
returns-in-Other c =
    let found = c.in_ok-tables.ensures.lookup in
    at_field_kind false is_facet (fields_of c.args.self.now) c.args.place _ found.3.0 ∙ ap is_facet (ap (λ (f : Field). f.kind) (sym found.1) ∙ c.in-Other.is)
