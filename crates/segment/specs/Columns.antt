-- A column by its four tables: its terms, its rows, and the questions that are asked of it. Assumes nothing.
use Rattle.std.specs.Prelude.{ℕ, ◌+◌, ◌-◌, Bool, true, cond, not, ◌&&◌, ◌||◌, ltb, leb, List, [], ◌∷◌, length, is_some, Some, None, Ok, Err, Option, Result, ◌==◌, nat_le, slice_index, slice_index_or}
use Rattle.facet.specs.Paths.{steps, order}
use Rattle.std.specs.List.{list_all}
use Rattle.std.specs.Option.{option_map, option_or}
use Rattle.std.specs.Ordering.{is_lt}
use Rattle.utf8.specs.Octets.{utf8}
use Rattle.segment.specs.declared.fault.ColumnFault.{ColumnFault}
use Rattle.segment.specs.declared.fault.ColumnFault.TheVariants.{TooLarge, TermEnds, TermNotUtf8, EmptyStep, TermOrder, RowEnds, NoTerm, OrdinalOrder}
use Rattle.segment.specs.Items.{start_of, end_of, items, last_end, first_failing}

-- ---- what is asked of each place

-- the end is not before the one before it, and the item is not longer than the limit, if there is one
abbrev pub short : Option ℕ → ℕ → Bool
short None n = true
short (Some limit) n = nat_le n limit

abbrev pub end_fits : Option ℕ → List ℕ → ℕ → Bool
end_fits limit ends i = nat_le (start_of ends i) (end_of ends i) && short limit (end_of ends i - start_of ends i)

-- the ends never fall and end at the total: the first place that fails, or the count where only the last end is wrong
abbrev pub ends_fault : Option ℕ → List ℕ → ℕ → Option ℕ
ends_fault limit ends total = option_or (first_failing (end_fits limit ends) 0 (length ends)) (cond (last_end ends == total) None (Some (length ends)))

-- each of the steps has a byte
abbrev pub full : List (List ℕ) → Bool
full parts = list_all (λ part. not (length part == 0)) parts

-- the first is asked nothing, any other to pass a test with the one before
abbrev pub after : {X : Type 0} → X → (X → X → Bool) → List X → ℕ → Bool
after d test xs i = i == 0 || test (slice_index_or xs (i - 1) d) (slice_index_or xs i d)

abbrev pub rises : List ℕ → List ℕ → Bool
rises f g = is_lt (order f g)

-- the place of the first ordinal that falls within its row, where the rows begin at n
abbrev pub falls_from : ℕ → List (List ℕ) → Option ℕ
falls_from n [] = None
falls_from n (r ∷ rs) = option_or (option_map (λ k. n + k) (first_failing (after 0 leb r) 0 (length r))) (falls_from (n + length r) rs)

-- ---- the questions, in their order

-- each term: that it is UTF-8, has no empty step, and is greater than the one before
abbrev pub each_fault : List ℕ → List ℕ → Option ColumnFault
each_fault bytes ends =
    option_or (option_map TermNotUtf8 (first_failing (λ i. utf8 (slice_index_or (items ends bytes) i [])) 0 (length ends)))
    (option_or (option_map EmptyStep (first_failing (λ i. full (steps (slice_index_or (items ends bytes) i []))) 0 (length ends)))
    (option_map TermOrder (first_failing (after [] rises (items ends bytes)) 0 (length ends))))

-- the terms: their ends, and then each term
abbrev pub terms_fault : List ℕ → List ℕ → Option ColumnFault
terms_fault bytes ends = option_or (option_map TermEnds (ends_fault (Some 127) ends (length bytes))) (each_fault bytes ends)

-- the rows: their ends, that each ordinal has a term, and that none falls within its row
abbrev pub rows_fault : List ℕ → List ℕ → ℕ → Option ColumnFault
rows_fault row_ends ordinals terms =
    option_or (option_map RowEnds (ends_fault None row_ends (length ordinals)))
    (option_or (option_map NoTerm (first_failing (λ i. ltb (slice_index ordinals i) terms) 0 (length ordinals)))
    (option_map OrdinalOrder (falls_from 0 (items row_ends ordinals))))

-- the first question that is answered no; the first of all is whether there are at most 4096 terms and 65535 rows
abbrev pub fault_of : List ℕ → List ℕ → List ℕ → List ℕ → Option ColumnFault
fault_of bytes ends row_ends ordinals =
    option_or (cond (nat_le (length ends) 4096 && nat_le (length row_ends) 65535) None (Some TooLarge))
    (option_or (terms_fault bytes ends) (rows_fault row_ends ordinals (length ends)))

-- a fault is refused, and nothing else
abbrev pub asked : {E : Type 0} → Option E → Result (Unit {0}) E
asked None = Ok tt
asked (Some e) = Err e

-- every question is answered yes
abbrev pub sound : List ℕ → List ℕ → List ℕ → List ℕ → Bool
sound bytes ends row_ends ordinals = not (is_some (fault_of bytes ends row_ends ordinals))
