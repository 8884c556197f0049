-- A segment: its fields, its document number and its alive set. Assumes nothing.
use Rattle.std.specs.Prelude.{ℕ, ◌+◌, ◌/◌, ◌%◌, ◌^◌, Bool, true, cond, not, ◌&&◌, List, [], length, is_some, Some, None, Option, ◌==◌, nat_le, slice_index}
use Rattle.std.specs.Borrow.{Bor}
use Rattle.std.specs.List.{list_all}
use Rattle.std.specs.Option.{option_or}
use Rattle.segment.specs.declared.field.Field.{Field}
use Rattle.segment.specs.declared.field.Kind.{Kind}
use Rattle.segment.specs.declared.field.Kind.TheVariants.{Facet, Other}
use Rattle.segment.specs.declared.segment_fault.SegmentFault.{SegmentFault}
use Rattle.segment.specs.declared.segment_fault.SegmentFault.TheVariants.{Documents}
use Rattle.segment.specs.Fields.{fields_from}

-- a facet field has a row for each document
abbrev pub rows_ok : ℕ → Kind → Bool
rows_ok docs (Facet t) = length t.row_ends.now == docs
rows_ok docs Other = true

abbrev pub rows_are : ℕ → List Field → Bool
rows_are docs fs = list_all (λ (f : Field). rows_ok docs f.kind) fs

-- an alive set has a bit for each document
abbrev pub alive_fits : ℕ → Option (Bor (List ℕ)) → Bool
alive_fits docs None = true
alive_fits docs (Some set) = length set.now == (docs + 7) / 8

-- the fields come first, then the document number
abbrev pub segment_fault : List Field → ℕ → Option (Bor (List ℕ)) → Option SegmentFault
segment_fault fs docs set =
    option_or (fields_from [] fs) (cond (nat_le docs 65535 && (rows_are docs fs && alive_fits docs set)) None (Some Documents))

abbrev pub whole : List Field → ℕ → Option (Bor (List ℕ)) → Bool
whole fs docs set = not (is_some (segment_fault fs docs set))

-- bit d mod 8, lowest first, of byte d div 8
abbrev pub bit_of : List ℕ → ℕ → Bool
bit_of bytes d = slice_index bytes (d / 8) / 2 ^ (d % 8) % 2 == 1

-- without a set all documents are alive
abbrev pub alive_in : Option (Bor (List ℕ)) → ℕ → Bool
alive_in None d = true
alive_in (Some set) d = bit_of set.now d
