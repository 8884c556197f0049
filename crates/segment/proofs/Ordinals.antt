-- What a column's terms and rows keep, place by place. Assumes nothing.
use Rattle.std.proofs.Common.{◌≡◌, ℕ, zero, suc, ◌+◌, ◌-◌, ◌<◌, ◌≤◌, Bool, true, false, cond, ◌&&◌, ◌||◌, eqb, ltb, leb, List, [], ◌∷◌, length, get_or, drop, Some, None, Ordering, Less, Equal, Greater, sym, refl, ap, ◌∙◌, subst, arith, length-drop, length-take}
use Rattle.facet.specs.Paths.{order, steps}
use Rattle.std.proofs.lemmas.List.{get_or-take, get_or-drop}
use Rattle.std.proofs.lemmas.Bool.{leb-true, ltb-true, eqb-true}
use Rattle.std.specs.Cmp.Lexicographic.{nat_list_cmp_total}
use Rattle.std.specs.Option.{option_map}
use Rattle.std.specs.Ordering.{is_lt}
use Rattle.utf8.specs.Octets.{utf8}
use Rattle.segment.specs.declared.column.Column.{Column}
use Rattle.segment.specs.declared.fault.ColumnFault.TheVariants.{TooLarge, TermEnds, TermNotUtf8, EmptyStep, TermOrder, RowEnds, NoTerm, OrdinalOrder}
use Rattle.segment.specs.Columns.{ends_fault, full, after, rises, falls_from, terms_fault, rows_fault, fault_of, sound}
use Rattle.segment.specs.Held.{terms_of, rows_of}
use Rattle.segment.specs.Items.{start_of, end_of, items, first_failing}
use Rattle.segment.proofs.Sounds.{mapped_none, none_from, short_terms, length_terms, length_rows}
use Rattle.segment.proofs.Spans.{both_none, all_pass, item_at}

is_less : (o : Ordering) → is_lt o ≡ true → o ≡ Less
is_less Less e = refl
is_less Equal e = let z : ◌≡◌ {A = ℕ} 0 1 = cc in absurd (omega arith)
is_less Greater e = let z : ◌≡◌ {A = ℕ} 0 1 = cc in absurd (omega arith)

few : (a b : Bool) → cond (a && b) None (Some TooLarge) ≡ None → a ≡ true
few true b e = refl
few false b e = let z : ◌≡◌ {A = ℕ} 0 1 = cc in absurd (omega arith)

from_zero : (test : ℕ → Bool) (n k : ℕ) → first_failing test 0 n ≡ None → k < n → test k ≡ true
from_zero test n k e h = let z : 0 + k ≡ k = omega arith in ap test (sym z) ∙ all_pass test 0 n k e h

-- each behind the first passes the test with the one before
after_passes : {X : Type 0} (d : X) (test : X → X → Bool) (xs : List X) (n i : ℕ) → first_failing (after d test xs) 0 n ≡ None → i + 1 < n → test (get_or xs i d) (get_or xs (i + 1) d) ≡ true
after_passes d test xs n i e h =
    let p = from_zero (after d test xs) n (i + 1) e h in
    either_first (eqb (i + 1) 0) _ (λ q. let z = eqb-true (i + 1) 0 q in absurd (omega arith)) (let m : i + 1 - 1 ≡ i = omega arith in subst (λ j. (eqb (i + 1) 0 || test (get_or xs j d) (get_or xs (i + 1) d)) ≡ true) m p)
  where
    either_first : (a b : Bool) → (a ≡ true → b ≡ true) → (a || b) ≡ true → b ≡ true
    either_first true b f h = f refl
    either_first false b f h = h

-- no row falls
none_falls : (s : ℕ) (rows : List (List ℕ)) (d : ℕ) → falls_from s rows ≡ None → d < length rows → first_failing (after 0 leb (get_or rows d [])) 0 (length (get_or rows d [])) ≡ None
none_falls s [] d e h = absurd (omega arith)
none_falls s (r ∷ rows) zero e h = mapped_none (λ k. s + k) _ (both_none _ _ e).0
none_falls s (r ∷ rows) (suc d) e h = none_falls (s + length r) rows d (both_none (option_map (λ k. s + k) (first_failing (after 0 leb r) 0 (length r))) _ e).1 (omega arith)

rise_by : (row : List ℕ) → first_failing (after 0 leb row) 0 (length row) ≡ None → (i n : ℕ) → i + n < length row → get_or row i 0 ≤ get_or row (i + n) 0
rise_by row e i zero h = let z : i + 0 ≡ i = omega arith in subst (λ j. get_or row i 0 ≤ get_or row j 0) (sym z) (omega arith)
rise_by row e i (suc n) h =
    let a = rise_by row e i n (omega arith) in
    let b = leb-true _ _ (after_passes 0 leb row (length row) (i + n) e (omega arith)) in
    let z : i + suc n ≡ i + n + 1 = omega arith in subst (λ j. get_or row i 0 ≤ get_or row j 0) (sym z) (omega arith)

module _ (bytes ends row_ends ordinals : List ℕ) (ok : sound bytes ends row_ends ordinals ≡ true) where
  faults : (cond (leb (length ends) 4096 && leb (length row_ends) 65535) None (Some TooLarge) ≡ None) × (terms_fault bytes ends ≡ None) × (rows_fault row_ends ordinals (length ends) ≡ None)
  faults =
      let (a, b) = both_none (cond (leb (length ends) 4096 && leb (length row_ends) 65535) None (Some TooLarge)) _ (none_from (fault_of bytes ends row_ends ordinals) ok) in
      let (p, q) = both_none (terms_fault bytes ends) _ b in (a, p, q)

  few_ends : length ends ≤ 4096
  few_ends = leb-true _ _ (few (leb (length ends) 4096) _ faults.0)

  order_none : first_failing (after [] rises (items ends bytes)) 0 (length ends) ≡ None
  order_none =
      let a = (both_none (option_map TermEnds (ends_fault (Some 127) ends (length bytes))) _ faults.1).1 in
      let b = (both_none (option_map TermNotUtf8 (first_failing (λ i. utf8 (get_or (items ends bytes) i [])) 0 (length ends))) _ a).1 in
      mapped_none TermOrder _ (both_none (option_map EmptyStep (first_failing (λ i. full (steps (get_or (items ends bytes) i []))) 0 (length ends))) _ b).1

  rows_none : (first_failing (λ i. ltb (get_or ordinals i 0) (length ends)) 0 (length ordinals) ≡ None) × (falls_from 0 (items row_ends ordinals) ≡ None)
  rows_none =
      let a = (both_none (option_map RowEnds (ends_fault None row_ends (length ordinals))) _ faults.2).1 in
      let (p, q) = both_none (option_map NoTerm (first_failing (λ i. ltb (get_or ordinals i 0) (length ends)) 0 (length ordinals))) _ a in
      (mapped_none NoTerm _ p, mapped_none OrdinalOrder _ q)

  ascend_by : (i n : ℕ) → i + suc n < length ends → order (get_or (items ends bytes) i []) (get_or (items ends bytes) (i + suc n) []) ≡ Less
  ascend_by i zero h =
      let z : i + 1 ≡ i + suc 0 = omega arith in
      subst (λ j. order (get_or (items ends bytes) i []) (get_or (items ends bytes) j []) ≡ Less) z (is_less _ (after_passes [] rises (items ends bytes) (length ends) i order_none (omega arith)))
  ascend_by i (suc n) h =
      let z : i + suc n + 1 ≡ i + suc (suc n) = omega arith in
      let b = is_less _ (after_passes [] rises (items ends bytes) (length ends) (i + suc n) order_none (omega arith)) in
      subst (λ j. order (get_or (items ends bytes) i []) (get_or (items ends bytes) j []) ≡ Less) z (nat_list_cmp_total.trans (get_or (items ends bytes) i []) (get_or (items ends bytes) (i + suc n) []) (get_or (items ends bytes) (i + suc n + 1) []) (ascend_by i n (omega arith)) b)

-- ---- of a column

module _ (c : Column) where
  pub terms_few : length (terms_of c) ≤ 4096
  terms_few = let e = length_terms c in let l = few_ends c.terms.all.now c.terms.ends.now c.rows.ends.now c.rows.all.now c.sound in omega arith

  pub terms_ascend : (i j : ℕ) → i < j → j < length (terms_of c) → order (get_or (terms_of c) i []) (get_or (terms_of c) j []) ≡ Less
  terms_ascend i j l h =
      let e = length_terms c in
      let z : i + suc (j - i - 1) ≡ j = omega arith in
      subst (λ k. order (get_or (terms_of c) i []) (get_or (terms_of c) k []) ≡ Less) z (ascend_by c.terms.all.now c.terms.ends.now c.rows.ends.now c.rows.all.now c.sound i (j - i - 1) (omega arith))

  pub terms_short : (i : ℕ) → i < length (terms_of c) → length (get_or (terms_of c) i []) ≤ 127
  terms_short i h = let e = length_terms c in short_terms c.terms.all.now c.terms.ends.now c.rows.ends.now c.rows.all.now c.sound i (omega arith)

  -- every ordinal has a term
  pub ordinals_within : (d k : ℕ) → d < length (rows_of c) → k < length (get_or (rows_of c) d []) → get_or (get_or (rows_of c) d []) k 0 < length (terms_of c)
  ordinals_within d k h l =
      let e = length_terms c in
      let m = length_rows c in
      let w = c.rows.within d (omega arith) in
      let ends = c.rows.ends.now in
      let os = c.rows.all.now in
      let s = start_of ends d in
      let n = end_of ends d - s in
      let is = item_at 0 ends os d w.0 in
      let len = ap length (sym is) ∙ length-take n (drop s os) in
      let rest = length-drop s os in
      let a : k < n = omega arith in
      let at : get_or (get_or (rows_of c) d []) k 0 ≡ get_or os (s + k) 0 = ap (λ (r : List ℕ). get_or r k 0) (sym is) ∙ get_or-take n (drop s os) k 0 a ∙ get_or-drop s os k 0 in
      let b = ltb-true _ _ (from_zero (λ i. ltb (get_or os i 0) (length c.terms.ends.now)) (length os) (s + k) (rows_none c.terms.all.now c.terms.ends.now c.rows.ends.now c.rows.all.now c.sound).0 (omega arith)) in
      omega arith

  -- the ordinals of a row do not fall
  pub rows_rise : (d i j : ℕ) → d < length (rows_of c) → i ≤ j → j < length (get_or (rows_of c) d []) → get_or (get_or (rows_of c) d []) i 0 ≤ get_or (get_or (rows_of c) d []) j 0
  rows_rise d i j h l m =
      let z : i + (j - i) ≡ j = omega arith in
      subst (λ k. get_or (get_or (rows_of c) d []) i 0 ≤ get_or (get_or (rows_of c) d []) k 0) z
      (rise_by (get_or (rows_of c) d []) (none_falls 0 (rows_of c) d (rows_none c.terms.all.now c.terms.ends.now c.rows.ends.now c.rows.all.now c.sound).1 h) i (j - i) (omega arith))
