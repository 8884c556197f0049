-- What a column holds. Assumes nothing.
use Rattle.std.specs.Prelude.{◌≡◌, ℕ, cond, List, [], Result, IfOk}
use Rattle.std.specs.Result.{result_err}
use Rattle.segment.specs.declared.column.Column.{Column}
use Rattle.segment.specs.declared.fault.ColumnFault.{ColumnFault}
use Rattle.segment.specs.declared.field.Tables.{Tables}
use Rattle.segment.specs.Tables.{tables_fault, are_sound, table_terms, table_rows}
use Rattle.segment.specs.Items.{items}

-- its terms, by ordinal
abbrev pub terms_of : Column → List (List ℕ)
terms_of c = items c.terms.ends.now c.terms.all.now

-- the ordinals of each document
abbrev pub rows_of : Column → List (List ℕ)
rows_of c = items c.rows.ends.now c.rows.all.now

-- it has these tables where they are sound, and else empty ones
pub record TablesOf (c : Column) (t : Tables) : Type 0 where
  pub terms : terms_of c ≡ cond (are_sound t) (table_terms t) []
  pub rows : rows_of c ≡ cond (are_sound t) (table_rows t) []

-- the column that has these tables, or the first question that they fail
pub record Tried (r : Result Column ColumnFault) (t : Tables) : Type 0 where
  pub fault : result_err r ≡ tables_fault t
  pub terms : IfOk r (λ c. terms_of c ≡ table_terms t)
  pub rows : IfOk r (λ c. rows_of c ≡ table_rows t)
