-- Items by their places. Assumes nothing.
use Rattle.std.proofs.Common.{◌≡◌, ℕ, zero, suc, ◌+◌, ◌-◌, ◌<◌, ◌≤◌, Bool, true, false, cond, eqb, leb, List, [], ◌∷◌, length, get_or, take, drop, Some, None, Option, sym, refl, ap, ◌∙◌, subst, le_of_suc-le-suc, add-one, arith, length-drop, length-take}
use Rattle.std.proofs.lemmas.List.{at_drop_more}
use Rattle.std.proofs.lemmas.Bool.{leb-true, eqb-true, and_parts}
use Rattle.std.specs.Option.{option_map, option_or}
use Rattle.segment.specs.Columns.{short, end_fits, ends_fault, after, falls_from}
use Rattle.segment.specs.Items.{start_of, end_of, items_from, items, last_end, first_failing, Within, AllWithin}

pub length_items : {X : Type 0} (s : ℕ) (es : List ℕ) (xs : List X) → length (items_from s es xs) ≡ length es
length_items s [] xs = refl
length_items s (e ∷ es) xs = ap suc (length_items e es xs)

pub item_at : {X : Type 0} (s : ℕ) (es : List ℕ) (xs : List X) (i : ℕ) → i < length es → take (get_or es i 0 - get_or (s ∷ es) i 0) (drop (get_or (s ∷ es) i 0) xs) ≡ get_or (items_from s es xs) i []
item_at s [] xs i h = absurd (omega arith)
item_at s (e ∷ es) xs zero h = refl
item_at s (e ∷ es) xs (suc i) h = item_at e es xs i (le_of_suc-le-suc h)

-- ---- all places pass

pub all_pass : (test : ℕ → Bool) (i n k : ℕ) → first_failing test i n ≡ None → k < n → test (i + k) ≡ true
all_pass test i zero k e h = absurd (omega arith)
all_pass test i (suc n) k e h = cut (test i) k h refl e (all_pass test (suc i) n)
  where
    at_first : (t : Bool) (o : Option ℕ) → cond t o (Some i) ≡ None → (t ≡ true) × (o ≡ None)
    at_first true o e = (refl, e)
    at_first false o e = absurd (let z : ◌≡◌ {A = ℕ} 0 1 = cc in omega arith)

    cut : (t : Bool) (k : ℕ) → k < suc n → test i ≡ t → cond t (first_failing test (suc i) n) (Some i) ≡ None → ((k : ℕ) → first_failing test (suc i) n ≡ None → k < n → test (suc i + k) ≡ true) → test (i + k) ≡ true
    cut t zero h q e f = let z : i + 0 ≡ i = omega arith in ap test z ∙ q ∙ (at_first t (first_failing test (suc i) n) e).0
    cut t (suc k) h q e f = let z : i + suc k ≡ suc i + k = omega arith in ap test z ∙ f k (at_first t (first_failing test (suc i) n) e).1 (le_of_suc-le-suc h)

pub both_none : {X : Type 0} (o p : Option X) → option_or o p ≡ None → (o ≡ None) × (p ≡ None)
both_none None p e = (refl, e)
both_none (Some x) p e = absurd (let z : ◌≡◌ {A = ℕ} 0 1 = cc in omega arith)

-- ---- ends without a fault

module _ (limit : Option ℕ) (ends : List ℕ) (total : ℕ) (ok : ends_fault limit ends total ≡ None) where
  parts : (first_failing (end_fits limit ends) 0 (length ends) ≡ None) × (cond (eqb (last_end ends) total) None (Some (length ends)) ≡ None)
  parts = both_none (first_failing (end_fits limit ends) 0 (length ends)) (cond (eqb (last_end ends) total) None (Some (length ends))) ok

  passes : (i : ℕ) → i < length ends → (leb (start_of ends i) (end_of ends i) ≡ true) × (short limit (end_of ends i - start_of ends i) ≡ true)
  passes i h =
      and_parts (leb (start_of ends i) (end_of ends i)) (short limit (end_of ends i - start_of ends i))
      (let z : 0 + i ≡ i = omega arith in ap (end_fits limit ends) (sym z) ∙ all_pass (end_fits limit ends) 0 (length ends) i parts.0 h)

  ends_last : last_end ends ≡ total
  ends_last = cut (eqb (last_end ends) total) refl parts.1
    where
      cut : (t : Bool) → eqb (last_end ends) total ≡ t → cond t None (Some (length ends)) ≡ None → last_end ends ≡ total
      cut true q e = eqb-true (last_end ends) total q
      cut false q e = absurd (let z : ◌≡◌ {A = ℕ} 0 1 = cc in omega arith)

  -- starts never fall
  climbs : (i k : ℕ) → i + k ≤ length ends → start_of ends i ≤ start_of ends (i + k)
  climbs i zero h = let z : i + 0 ≡ i = omega arith in subst (λ (m : ℕ). start_of ends i ≤ start_of ends m) (sym z) (omega arith)
  climbs i (suc k) h =
      let z : i + suc k ≡ suc (i + k) = omega arith in
      let a = climbs i k (omega arith) in
      let b : start_of ends (i + k) ≤ end_of ends (i + k) = leb-true (start_of ends (i + k)) (end_of ends (i + k)) (passes (i + k) (omega arith)).0 in
      subst (λ (m : ℕ). start_of ends i ≤ start_of ends m) (sym z) (omega arith)

  pub all_within : AllWithin ends total
  all_within i h =
      let a = leb-true (start_of ends i) (end_of ends i) (passes i h).0 in
      let z : suc i + (length ends - suc i) ≡ length ends = omega arith in
      let b : end_of ends i ≤ last_end ends = subst (λ (m : ℕ). start_of ends (suc i) ≤ start_of ends m) z (climbs (suc i) (length ends - suc i) (omega arith)) in
      (h, a, let e = ends_last in omega arith)

  pub all_short : (i : ℕ) → i < length ends → short limit (end_of ends i - start_of ends i) ≡ true
  all_short i h = (passes i h).1

-- ---- rows

-- the row at i ends where the next begins
pub row_ends : (ends ordinals : List ℕ) (i : ℕ) → Within ends (length ordinals) i → start_of ends i + length (get_or (items ends ordinals) i []) ≡ start_of ends (i + 1)
row_ends ends ordinals i w =
    let e = ap length (sym (item_at 0 ends ordinals i w.0)) in
    let t = length-take (end_of ends i - start_of ends i) (drop (start_of ends i) ordinals) in
    let d = length-drop (start_of ends i) ordinals in
    let z : start_of ends (i + 1) ≡ end_of ends i = ap (start_of ends) (add-one i) in
    let a = w.1 in
    let b = w.2 in
    omega arith

-- what the row at i says
pub falls_at : (ends ordinals : List ℕ) (i : ℕ) (row : List ℕ) (start : ℕ) (o : Option ℕ) → Within ends (length ordinals) i → row ≡ get_or (items ends ordinals) i [] → start ≡ start_of ends i
    → o ≡ option_map (λ k. start + k) (first_failing (after 0 leb row) 0 (length row))
    → falls_from (start_of ends i) (drop i (items ends ordinals)) ≡ option_or o (falls_from (start_of ends (i + 1)) (drop (i + 1) (items ends ordinals)))
falls_at ends ordinals i row start o w e s q =
    let rows = items ends ordinals in
    let h : i < length rows = let l = length_items 0 ends ordinals in let k = w.0 in omega arith in
    at_drop_more (falls_from (start_of ends i)) rows i [] h
    ∙ (λ j. option_or (option_map (λ k. sym s j + k) (first_failing (after 0 leb (sym e j)) 0 (length (sym e j)))) (falls_from (row_ends ends ordinals i w j) (drop (i + 1) rows)))
    ∙ ap (λ (p : Option ℕ). option_or p (falls_from (start_of ends (i + 1)) (drop (i + 1) rows))) (sym q)
