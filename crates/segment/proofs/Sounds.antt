-- What a sound column keeps. Assumes nothing.
use Rattle.std.proofs.Common.{◌≡◌, ℕ, ◌+◌, ◌-◌, ◌<◌, ◌≤◌, true, cond, not, ◌&&◌, leb, List, [], length, get_or, drop, is_some, Some, None, Ok, Err, Option, sym, refl, ap, ◌∙◌, arith, length-take}
use Rattle.facet.specs.declared.fault.FacetFault.TheVariants.{TooLong, NotUtf8}
use Rattle.facet.specs.Reading.{decoded}
use Rattle.std.proofs.lemmas.Bool.{leb-true, le-ltb}
use Rattle.std.specs.Option.{option_map, option_or}
use Rattle.utf8.specs.Octets.{utf8}
use Rattle.segment.specs.declared.column.Column.{Column}
use Rattle.segment.specs.declared.fault.ColumnFault.{ColumnFault}
use Rattle.segment.specs.declared.fault.ColumnFault.TheVariants.{TooLarge, TermEnds, TermNotUtf8, RowEnds}
use Rattle.segment.specs.Columns.{asked, ends_fault, terms_fault, rows_fault, fault_of, sound}
use Rattle.segment.specs.Held.{terms_of, rows_of}
use Rattle.segment.specs.Items.{start_of, end_of, items, first_failing, AllWithin}
use Rattle.segment.proofs.Spans.{both_none, all_pass, all_within, all_short, item_at, length_items}

pub mapped_none : {X Y : Type 0} (f : X → Y) (o : Option X) → option_map f o ≡ None → o ≡ None
mapped_none f None e = refl
mapped_none f (Some x) e = absurd (let z : ◌≡◌ {A = ℕ} 0 1 = cc in omega arith)

pub none_from : {X : Type 0} (o : Option X) → not (is_some o) ≡ true → o ≡ None
none_from None e = refl
none_from (Some x) e = absurd (let z : ◌≡◌ {A = ℕ} 0 1 = cc in omega arith)

module _ (bytes ends row_ends ordinals : List ℕ) (ok : sound bytes ends row_ends ordinals ≡ true) where
  sizes : Option ColumnFault
  sizes = cond (leb (length ends) 4096 && leb (length row_ends) 65535) None (Some TooLarge)

  parts : (sizes ≡ None) × (option_or (terms_fault bytes ends) (rows_fault row_ends ordinals (length ends)) ≡ None)
  unfolding sizes
  parts = both_none sizes (option_or (terms_fault bytes ends) (rows_fault row_ends ordinals (length ends))) (none_from (fault_of bytes ends row_ends ordinals) ok)

  no_fault : (terms_fault bytes ends ≡ None) × (rows_fault row_ends ordinals (length ends) ≡ None)
  no_fault = both_none (terms_fault bytes ends) (rows_fault row_ends ordinals (length ends)) parts.1

  pub term_ends_none : ends_fault (Some 127) ends (length bytes) ≡ None
  term_ends_none = mapped_none TermEnds (ends_fault (Some 127) ends (length bytes)) (both_none (option_map TermEnds (ends_fault (Some 127) ends (length bytes))) _ no_fault.0).0

  pub utf8_terms : (i : ℕ) → i < length ends → utf8 (get_or (items ends bytes) i []) ≡ true
  utf8_terms i h =
      let rest = (both_none (option_map TermEnds (ends_fault (Some 127) ends (length bytes))) _ no_fault.0).1 in
      let none = mapped_none TermNotUtf8 (first_failing (λ i. utf8 (get_or (items ends bytes) i [])) 0 (length ends)) (both_none _ _ rest).0 in
      let z : 0 + i ≡ i = omega arith in
      ap (λ (k : ℕ). utf8 (get_or (items ends bytes) k [])) (sym z) ∙ all_pass (λ i. utf8 (get_or (items ends bytes) i [])) 0 (length ends) i none h

  pub row_ends_none : ends_fault None row_ends (length ordinals) ≡ None
  row_ends_none = mapped_none RowEnds (ends_fault None row_ends (length ordinals)) (both_none (option_map RowEnds (ends_fault None row_ends (length ordinals))) _ no_fault.1).0

  pub short_terms : (i : ℕ) → i < length ends → length (get_or (items ends bytes) i []) ≤ 127
  short_terms i h =
      let s = leb-true (end_of ends i - start_of ends i) 127 (all_short (Some 127) ends (length bytes) term_ends_none i h) in
      let e = ap length (sym (item_at 0 ends bytes i h)) ∙ length-take (end_of ends i - start_of ends i) (drop (start_of ends i) bytes) in
      omega arith

  pub terms_within : AllWithin ends (length bytes)
  terms_within = all_within (Some 127) ends (length bytes) term_ends_none

  pub rows_within : AllWithin row_ends (length ordinals)
  rows_within = all_within None row_ends (length ordinals) row_ends_none

-- ---- of a column

module _ (c : Column) where
  pub length_terms : length (terms_of c) ≡ length c.terms.ends.now
  length_terms = length_items 0 c.terms.ends.now c.terms.all.now

  pub length_rows : length (rows_of c) ≡ length c.rows.ends.now
  length_rows = length_items 0 c.rows.ends.now c.rows.all.now

  -- a term is the encoding of a facet
  pub term_decodes : (i : ℕ) → i < length (terms_of c) → decoded (get_or (terms_of c) i []) ≡ Ok (get_or (terms_of c) i [])
  term_decodes i h =
      let k : i < length c.terms.ends.now = let e = length_terms in omega arith in
      let t = get_or (terms_of c) i [] in
      (λ j. cond (le-ltb 127 (length t) (short_terms c.terms.all.now c.terms.ends.now c.rows.ends.now c.rows.all.now c.sound i k) j) (Err TooLong)
      (cond (utf8_terms c.terms.all.now c.terms.ends.now c.rows.ends.now c.rows.all.now c.sound i k j) (Ok t) (Err NotUtf8)))

-- ---- what was asked

pub asked_err : {E : Type 0} (o : Option E) (e : E) → Err e ≡ asked o → o ≡ Some e
asked_err None e h = absurd (let z : ◌≡◌ {A = ℕ} 0 1 = cc in omega arith)
asked_err (Some f) e h = cc

pub asked_ok : {E : Type 0} (o : Option E) (u : Unit {0}) → Ok u ≡ asked o → o ≡ None
asked_ok None u h = refl
asked_ok (Some f) u h = absurd (let z : ◌≡◌ {A = ℕ} 0 1 = cc in omega arith)
