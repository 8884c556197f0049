-- The number of each refusal of a column, and the place that it tells. Assumes nothing.
use Rattle.std.specs.Prelude.{ℕ, Some, None, Option}
use Rattle.segment.specs.declared.fault.ColumnFault.{ColumnFault}
use Rattle.segment.specs.declared.fault.ColumnFault.TheVariants.{TooLarge, TermEnds, TermNotUtf8, EmptyStep, TermOrder, RowEnds, NoTerm, OrdinalOrder}

abbrev pub column_number : ColumnFault → ℕ
column_number TooLarge = 9
column_number (TermEnds i) = 10
column_number (TermNotUtf8 i) = 11
column_number (EmptyStep i) = 12
column_number (TermOrder i) = 13
column_number (RowEnds i) = 14
column_number (NoTerm i) = 15
column_number (OrdinalOrder i) = 16

abbrev pub column_place : ColumnFault → Option ℕ
column_place TooLarge = None
column_place (TermEnds i) = Some i
column_place (TermNotUtf8 i) = Some i
column_place (EmptyStep i) = Some i
column_place (TermOrder i) = Some i
column_place (RowEnds i) = Some i
column_place (NoTerm i) = Some i
column_place (OrdinalOrder i) = Some i
