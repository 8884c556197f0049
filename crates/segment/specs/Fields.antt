-- Named fields, and the questions that are asked of each behind its column's. Assumes nothing.
use Rattle.std.specs.Prelude.{ℕ, zero, suc, Bool, cond, not, ◌&&◌, List, [], ◌∷◌, ◌++◌, length, is_some, Some, None, Option, nat_le, nat_lt}
use Rattle.std.specs.Option.{option_map, option_or}
use Rattle.std.specs.Str.{bytes_eq}
use Rattle.segment.specs.declared.fault.ColumnFault.{ColumnFault}
use Rattle.segment.specs.declared.field.Field.{Field}
use Rattle.segment.specs.declared.field.Kind.{Kind}
use Rattle.segment.specs.declared.field.Kind.TheVariants.{Facet, Other}
use Rattle.segment.specs.declared.segment_fault.SegmentFault.{SegmentFault}
use Rattle.segment.specs.declared.segment_fault.SegmentFault.TheVariants.{Column, Name}
use Rattle.segment.specs.Tables.{tables_fault}
use Rattle.segment.specs.Items.{first_failing}

-- the name of the field at a place
abbrev pub name_at : List Field → ℕ → List ℕ
name_at [] i = []
name_at (f ∷ fs) zero = f.name.now
name_at (f ∷ fs) (suc i) = name_at fs i

-- the place of the first field of the name
abbrev pub place_of : List Field → List ℕ → Option ℕ
place_of fs name = first_failing (λ i. not (bytes_eq (name_at fs i) name)) 0 (length fs)

-- a name has 1 to 64 bytes and is new, and there are fewer than four fields
abbrev pub admits : List Field → List ℕ → Bool
admits fs name = (nat_le 1 (length name) && nat_le (length name) 64) && (not (is_some (place_of fs name)) && nat_lt (length fs) 4)

-- the questions of a facet field's column
abbrev pub kind_fault : Kind → Option ColumnFault
kind_fault (Facet t) = tables_fault t
kind_fault Other = None

-- the fault of a field behind others, with its place
abbrev pub field_fault : List Field → Field → Option SegmentFault
field_fault fs f =
    option_or (option_map (λ e. Column (length fs) e) (kind_fault f.kind)) (cond (admits fs f.name.now) None (Some (Name (length fs))))

-- the first fault of the fields behind others
abbrev pub fields_from : List Field → List Field → Option SegmentFault
fields_from before [] = None
fields_from before (f ∷ fs) = option_or (field_fault before f) (fields_from (before ++ f ∷ []) fs)
