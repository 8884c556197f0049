-- What a docset's rising documents imply. Assumes nothing.
use Rattle.std.proofs.Common.{◌≡◌, ℕ, zero, suc, ◌+◌, ◌-◌, ◌<◌, ◌≤◌, Bool, true, false, ◌&&◌, ltb, List, [], ◌∷◌, length, get_or, Some, None, Option, sym, refl, ap, ◌∙◌, subst, arith, ltb-true, ltb-false, lt-ltb}
use Rattle.std.proofs.lemmas.Option.{MatchOption-at_some, MatchOption-at_none}
use Rattle.std.specs.List.{IsAllAdjacentAnswer, slice_get}
use Rattle.std.specs.Borrow.{Bor}
use Rattle.std.specs.Option.{MatchOption, option_copied}
use borrow.Author.Tests.{clash}
use lib.Ieee.{Float}
use Rattle.docset.specs.Pairs.{rises, first_doc_of, docs_of, Rising, first_doc, terminated}

both : (a b : Bool) → (a && b) ≡ true → (a ≡ true) × (b ≡ true)
both true b e = (refl, e)
both false b e = absurd (clash e)

pub first_below : (d : ℕ) (ds : List ℕ) → rises (d ∷ ds) ≡ true → d < first_doc_of ds
first_below d ds r = ltb-true d (first_doc_of ds) (both _ _ r).0

pub rest_rises : (d : ℕ) (ds : List ℕ) → rises (d ∷ ds) ≡ true → rises ds ≡ true
rest_rises d ds r = (both (ltb d (first_doc_of ds)) _ r).1

-- as many documents fit between the first and the end
pub rises_length : (ds : List ℕ) → rises ds ≡ true → first_doc_of ds + length ds ≤ terminated
rises_length [] r = omega arith
rises_length (d ∷ ds) r =
    let h = first_below d ds r in let k = rises_length ds (rest_rises d ds r) in omega arith

pub length_docs : (ps : List (ℕ × Float)) → length (docs_of ps) ≡ length ps
length_docs [] = refl
length_docs (p ∷ ps) = ap suc (length_docs ps)

pub rising_length : (ps : List (ℕ × Float)) → Rising ps → length ps ≤ terminated
rising_length ps r = let h = rises_length (docs_of ps) r in let e = length_docs ps in omega arith

-- no document is the end
pub rising_end : (ps : List (ℕ × Float)) → Rising ps → first_doc ps ≡ terminated → ps ≡ []
rising_end [] r e = refl
rising_end (p ∷ ps) r e =
    let h = first_below p.0 (docs_of ps) r in
    let k = rises_length (docs_of ps) (rest_rises p.0 (docs_of ps) r) in absurd (omega arith)

-- ---- place by place

pub rises_steps : (ds : List ℕ) → rises ds ≡ true → (k : ℕ) → suc k < length ds → get_or ds k 0 < get_or ds (suc k) 0
rises_steps [] r k h = absurd (omega arith)
rises_steps (d ∷ []) r k h = absurd (omega arith)
rises_steps (d ∷ (e ∷ ds)) r zero h = first_below d (e ∷ ds) r
rises_steps (d ∷ (e ∷ ds)) r (suc k) h = rises_steps (e ∷ ds) (rest_rises d (e ∷ ds) r) k (omega arith)

pub rises_below : (ds : List ℕ) → rises ds ≡ true → (k : ℕ) → k < length ds → get_or ds k 0 < terminated
rises_below [] r k h = absurd (omega arith)
rises_below (d ∷ ds) r zero h = let b = rises_length (d ∷ ds) r in omega arith
rises_below (d ∷ ds) r (suc k) h = rises_below ds (rest_rises d ds r) k (omega arith)

pub rises_from : (ds : List ℕ) → ((k : ℕ) → suc k < length ds → get_or ds k 0 < get_or ds (suc k) 0) → ((k : ℕ) → k < length ds → get_or ds k 0 < terminated) → rises ds ≡ true
rises_from [] s b = refl
rises_from (d ∷ []) s b = rw (lt-ltb d terminated (b 0 (omega arith)))
rises_from (d ∷ (e ∷ ds)) s b =
    rw (lt-ltb d e (s 0 (omega arith))) (rises_from (e ∷ ds) (λ k h. s (suc k) (omega arith)) (λ k h. b (suc k) (omega arith)))

-- ---- as a list is tested

abbrev pub answers : List ℕ → Bool → Type 0
answers ds b = IsAllAdjacentAnswer (λ d e r. r ≡ ltb d e) ds b

pub rises_none : (ds : List ℕ) → answers ds false → false ≡ rises ds
rises_none ds (k, within, falls) = by_cases (rises ds) refl
  where
    by_cases : (b : Bool) → rises ds ≡ b → false ≡ b
    by_cases false r = refl
    by_cases true r =
        let e : suc k ≡ k + 1 = omega arith in
        let up = rw e at (rises_steps ds r k (omega arith)) in
        let down = ltb-false _ _ (sym (falls 0)) in absurd (omega arith)

-- with each document below the next, only the last one decides
last_is : (d : ℕ) (ds : List ℕ) → slice_get (d ∷ ds) (length ds) ≡ Some (get_or (d ∷ ds) (length ds) 0)
last_is d [] = refl
last_is d (e ∷ ds) = last_is e ds

last_decides : (d : ℕ) (ds : List ℕ) → ((k : ℕ) → suc k < length (d ∷ ds) → get_or (d ∷ ds) k 0 < get_or (d ∷ ds) (suc k) 0) → ltb (get_or (d ∷ ds) (length ds) 0) terminated ≡ rises (d ∷ ds)
last_decides d [] s = by_cases (ltb d terminated)
  where
    by_cases : (b : Bool) → b ≡ (b && true)
    by_cases true = refl
    by_cases false = refl
last_decides d (e ∷ ds) s =
    rw (lt-ltb d e (s 0 (omega arith))) (last_decides e ds (λ k h. s (suc k) (omega arith)))

pub rises_last : (ds : List ℕ) (o : Option (Bor ℕ)) (b : Bool) (Q : Bor ℕ → Type 0) → answers ds true → option_copied o ≡ slice_get ds (length ds - 1) → ((d : Bor ℕ) → Q d → b ≡ ltb d.now terminated) → MatchOption o (b ≡ true) Q → b ≡ rises ds
rises_last ds o b Q a is q m = go ds a is
  where
    below : (o : Option (Bor ℕ)) → MatchOption o (b ≡ true) Q → MatchOption (option_copied o) (b ≡ true) (λ d. b ≡ ltb d terminated)
    below None m = m
    below (Some d) m = q d m

    go : (ds : List ℕ) → answers ds true → option_copied o ≡ slice_get ds (length ds - 1) → b ≡ rises ds
    go [] a is = MatchOption-at_none _ _ is (below o m)
    go (d ∷ ds) a is =
        let e : length (d ∷ ds) - 1 ≡ length ds = omega arith in
        let last = is ∙ ap (slice_get (d ∷ ds)) e ∙ last_is d ds in
        MatchOption-at_some _ _ _ last (below o m) ∙ last_decides d ds up
      where
        up : (k : ℕ) → suc k < length (d ∷ ds) → get_or (d ∷ ds) k 0 < get_or (d ∷ ds) (suc k) 0
        up k h =
            let e : suc k ≡ k + 1 = omega arith in
            subst (λ j. get_or (d ∷ ds) k 0 < get_or (d ∷ ds) j 0) (sym e) (ltb-true _ _ (sym (a k 0 (omega arith))))
