-- The four tables of a column together. Assumes nothing.
use Rattle.std.specs.Prelude.{ℕ, Bool, List, Option}
use Rattle.segment.specs.declared.fault.ColumnFault.{ColumnFault}
use Rattle.segment.specs.declared.field.Tables.{Tables}
use Rattle.segment.specs.Columns.{fault_of, sound}
use Rattle.segment.specs.Items.{items}

-- the questions that they are asked
abbrev pub tables_fault : Tables → Option ColumnFault
tables_fault t = fault_of t.term_bytes.now t.term_ends.now t.row_ends.now t.ordinals.now

-- every question is answered yes
abbrev pub are_sound : Tables → Bool
are_sound t = sound t.term_bytes.now t.term_ends.now t.row_ends.now t.ordinals.now

-- the terms and rows in them
abbrev pub table_terms : Tables → List (List ℕ)
table_terms t = items t.term_ends.now t.term_bytes.now

abbrev pub table_rows : Tables → List (List ℕ)
table_rows t = items t.row_ends.now t.ordinals.now
