-- Lists of bytes cut at a separator, and lines without their ends. Assumes nothing.
use Rattle.std.proofs.Common.{◌≡◌, ℕ, zero, suc, ◌+◌, ◌-◌, ◌<◌, Bool, true, false, cond, eqb, List, [], ◌∷◌, length, get_or, take, drop, Some, None, Option, Bor, unwrap_or, sym, refl, ap, ◌∙◌, subst, ⊎_elim, zero-add, arith}
use Rattle.facet.proofs.Paths.{split_some}
use Rattle.facet.specs.Pieces.{split, grow, first_piece}
use Rattle.std.proofs.lemmas.Bool.{eq-eqb, eqb-true, ne_eqb, both_ways, cases_lt}
use Rattle.std.proofs.lemmas.Iterator.{YieldsList}
use Rattle.std.proofs.lemmas.Iterator.Consumers.{YieldsList-turn, YieldsList-end}
use Rattle.std.proofs.lemmas.List.{drop_all, drop_more}
use Rattle.std.proofs.lemmas.List.FromFn.{length-enumerate_from, get_or-enumerate_from}
use Rattle.std.specs.Iterator.{Yields}
use Rattle.std.specs.List.{slice_split, onto_first, enumerate_from}
use Rattle.std.specs.Option.{MatchOption}
use lib.Pointwise.{pointwise}
use Rattle.recipes.specs.Lines.{bare}

module _ (s : ℕ) where
  -- std's pieces are the facet's
  pub slice_split-split : (xs : List ℕ) → slice_split (λ b. eqb b s) xs ≡ split s xs
  slice_split-split [] = refl
  slice_split-split (b ∷ xs) = cut (eqb b s) (split s xs) (slice_split-split xs)
    where
      cut : (t : Bool) (ps : List (List ℕ)) → slice_split (λ b. eqb b s) xs ≡ ps → cond t ([] ∷ slice_split (λ b. eqb b s) xs) (onto_first b (slice_split (λ b. eqb b s) xs)) ≡ cond t ([] ∷ ps) (grow b ps)
      cut true ps e = ap (λ (l : List (List ℕ)). [] ∷ l) e
      cut false [] e = ap (onto_first b) e
      cut false (p ∷ ps) e = ap (onto_first b) e

  -- the first piece is that of the split
  pub first_of_split : (xs : List ℕ) (d : List ℕ) → first_piece s xs ≡ get_or (split s xs) 0 d
  first_of_split [] d = refl
  first_of_split (b ∷ xs) d = cut (eqb b s) (split s xs) (first_of_split xs d) (split_some s xs)
    where
      cut : (t : Bool) (ps : List (List ℕ)) → first_piece s xs ≡ get_or ps 0 d → 0 < length ps → cond t [] (b ∷ first_piece s xs) ≡ get_or (cond t ([] ∷ ps) (grow b ps)) 0 d
      cut true ps h l = refl
      cut false [] h l = absurd (omega arith)
      cut false (p ∷ ps) h l = ap (λ (q : List ℕ). b ∷ q) h

-- ---- the pieces one by one, with their numbers

module _ {S : Type 0} {steps : S → Option (ℕ × Bor (List ℕ)) → S → Type 0} {s : S} (xs : List (ℕ × Bor (List ℕ))) (t : S) (y : Yields steps s xs t) (r : Option (ℕ × Bor (List ℕ))) (u : S) (k : steps t r u) (ps : List (List ℕ)) (e : YieldsList steps (λ p. (p.0, p.1.now)) s (enumerate_from 0 ps)) where
  pub piece_more : (i : ℕ) (x : Bor (List ℕ)) → r ≡ Some (i, x) → (i ≡ length xs) × (drop (length xs) ps ≡ x.now ∷ drop (length xs + 1) ps)
  piece_more i x n =
      let q = YieldsList-turn e xs t y r u (i, x) n k in
      let h : length xs < length ps = let l = length-enumerate_from 0 ps in omega (arith, q.0) in
      let z = q.1 ∙ get_or-enumerate_from 0 ps (length xs) (i, x.now) h in
      (ap (λ (p : ℕ × List ℕ). p.0) z ∙ zero-add (length xs), drop_more ps (length xs) x.now h ∙ ap (λ (v : List ℕ). v ∷ drop (length xs + 1) ps) (sym (ap (λ (p : ℕ × List ℕ). p.1) z)))

  pub piece_none : r ≡ None → drop (length xs) ps ≡ []
  piece_none n = let q = YieldsList-end e xs t y r u n k in drop_all (length xs) ps (let l = length-enumerate_from 0 ps in omega (arith, q.1))

-- one call of `next`, and then a `for` over what is left
pub first_call : {S A : Type 0} (steps : S → Option A → S → Type 0) (xs : List A) (i t : S) (y : Yields steps i xs t) (s : S) (x : A) (r : Option A) (j : S) (k : steps s r j) → r ≡ Some x → i ≡ j → Yields steps s (x ∷ xs) t
first_call steps xs i t y s x r j k e q = (j, subst (λ o. steps s o j) e k, subst (λ z. Yields steps z xs t) q y)

-- ---- the end of a line

pub bare_ended : (xs : List ℕ) (n : ℕ) → suc n ≡ length xs → get_or xs n 0 ≡ 13 → take n xs ≡ bare xs
bare_ended [] n h e = absurd (omega arith)
bare_ended (b ∷ []) zero h e = sym (ap (λ (t : Bool). cond t [] (b ∷ [])) (eq-eqb b 13 e))
bare_ended (b ∷ []) (suc n) h e = absurd (omega arith)
bare_ended (b ∷ c ∷ xs) zero h e = absurd (omega arith)
bare_ended (b ∷ c ∷ xs) (suc n) h e = ap (λ (l : List ℕ). b ∷ l) (bare_ended (c ∷ xs) n (omega arith) e)

pub bare_plain : (xs : List ℕ) (n : ℕ) → suc n ≡ length xs → (get_or xs n 0 ≡ 13 → ⊥) → xs ≡ bare xs
bare_plain [] n h e = refl
bare_plain (b ∷ []) zero h e = sym (ap (λ (t : Bool). cond t [] (b ∷ [])) (ne_eqb b 13 e))
bare_plain (b ∷ []) (suc n) h e = absurd (omega arith)
bare_plain (b ∷ c ∷ xs) zero h e = absurd (omega arith)
bare_plain (b ∷ c ∷ xs) (suc n) h e = ap (λ (l : List ℕ). b ∷ l) (bare_plain (c ∷ xs) n (omega arith) e)

pub bare_empty : (xs : List ℕ) → length xs ≡ 0 → xs ≡ bare xs
bare_empty [] h = refl
bare_empty (b ∷ xs) h = absurd (omega arith)

module _ (xs : List ℕ) where
  -- the last byte is the end of xs
  last_is : (n : ℕ) → suc n ≡ length xs → pointwise eqb (drop n xs) (13 ∷ []) ≡ eqb (get_or xs n 0) 13
  last_is n h =
      ap (λ (l : List ℕ). pointwise eqb l (13 ∷ [])) (drop_more xs n 0 (omega arith) ∙ ap (λ (l : List ℕ). get_or xs n 0 ∷ l) (drop_all (n + 1) xs (omega arith))) ∙ grind arith

-- a line as `strip_suffix` and `unwrap_or` leave it
pub bare_stripped : (o : Option (Bor (List ℕ))) (line r : Bor (List ℕ))
    → MatchOption o (pointwise eqb (drop (length line.now - 1) line.now) (13 ∷ []) ≡ false)
    (λ x. (pointwise eqb (drop (length line.now - 1) line.now) (13 ∷ []) ≡ true) × (x.now ≡ take (length line.now - 1) line.now) × (length x.now + 1 ≡ length line.now))
    → r ≡ unwrap_or o line → r.now ≡ bare line.now
bare_stripped None line r h e =
    ap (λ (b : Bor (List ℕ)). b.now) e
    ∙ ⊎_elim
    (λ l. let n = length line.now - 1 in bare_plain line.now n (omega (arith, l)) (λ q. both_ways (eqb (get_or line.now n 0) 13) (sym (last_is line.now n (omega (arith, l))) ∙ h) (eq-eqb _ 13 q)))
    (λ z. bare_empty line.now (omega (arith, z))) (cases_lt 0 (length line.now))
bare_stripped (Some x) line r h e =
    ap (λ (b : Bor (List ℕ)). b.now) e ∙ h.1
    ∙ (let n = length line.now - 1 in bare_ended line.now n (omega (arith, h.2)) (eqb-true _ 13 (sym (last_is line.now n (omega (arith, h.2))) ∙ h.0)))
