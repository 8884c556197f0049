-- The first place that fails a test. Assumes nothing.
use Rattle.std.proofs.Common.{◌≡◌, ℕ, zero, suc, ◌+◌, ◌-◌, ◌<◌, ◌≤◌, Bool, true, false, cond, Some, None, Option, sym, refl, ap, ◌∙◌, ⊎_elim, add-one, arith, MatchOption}
use Rattle.std.proofs.lemmas.Bool.{cases_lt, cases_eq}
use Rattle.segment.specs.Items.{first_failing}
use Rattle.segment.specs.Laws.{FirstPlace}

-- what the test of place i says, with n places in all
pub at_place : (test : ℕ → Bool) (i n : ℕ) (t : Bool) → i < n → t ≡ test i → first_failing test i (n - i) ≡ cond t (first_failing test (i + 1) (n - (i + 1))) (Some i)
at_place test i n t h e =
    let z : n - i ≡ suc (n - (i + 1)) = omega arith in
    ap (first_failing test i) z ∙ (λ j. cond (sym e j) (first_failing test (sym (add-one i) j) (n - (i + 1))) (Some i))

pub past_all : (test : ℕ → Bool) (i n : ℕ) → n ≤ i → first_failing test i (n - i) ≡ None
past_all test i n h = let z : n - i ≡ 0 = omega arith in ap (first_failing test i) z

pub within_all : (test : ℕ → Bool) (i n k : ℕ) → first_failing test i n ≡ Some k → k < i + n
within_all test i zero k e = absurd (let z : ◌≡◌ {A = ℕ} 0 1 = cc in omega arith)
within_all test i (suc n) k e = cut (test i) e (within_all test (suc i) n k)
  where
    cut : (t : Bool) → cond t (first_failing test (suc i) n) (Some i) ≡ Some k → (first_failing test (suc i) n ≡ Some k → k < suc i + n) → k < i + suc n
    cut true e f = let h = f e in omega arith
    cut false e f = let z : i ≡ k = cc in omega arith

-- the first place from i on
first_from : (test : ℕ → Bool) (i n : ℕ)
    → MatchOption (first_failing test i n) ((j : ℕ) → i ≤ j → j < i + n → test j ≡ true) (λ k. (k < i + n) × (test k ≡ false) × ((j : ℕ) → i ≤ j → j < k → test j ≡ true))
first_from test i zero = λ j l h. absurd (omega arith)
first_from test i (suc n) = cut (test i) refl (first_failing test (suc i) n) (first_from test (suc i) n)
  where
    or_here : test i ≡ true → (j : ℕ) → i ≤ j → (suc i ≤ j → test j ≡ true) → test j ≡ true
    or_here q j l f = ⊎_elim (λ (e : j ≡ i). ap test e ∙ q) (λ (d : j ≡ i → ⊥). f (⊎_elim (λ (h : i < j). h) (λ (h : j ≤ i). absurd (d (omega arith))) (cases_lt i j))) (cases_eq j i)

    cut : (t : Bool) → test i ≡ t → (o : Option ℕ) → MatchOption o ((j : ℕ) → suc i ≤ j → j < suc i + n → test j ≡ true) (λ k. (k < suc i + n) × (test k ≡ false) × ((j : ℕ) → suc i ≤ j → j < k → test j ≡ true))
        → MatchOption (cond t o (Some i)) ((j : ℕ) → i ≤ j → j < i + suc n → test j ≡ true) (λ k. (k < i + suc n) × (test k ≡ false) × ((j : ℕ) → i ≤ j → j < k → test j ≡ true))
    cut true q None f = λ j l h. or_here q j l (λ m. f j m (omega arith))
    cut true q (Some k) f = (let h = f.0 in omega arith, f.1, λ j l h. or_here q j l (λ m. f.2 j m h))
    cut false q o f = (omega arith, q, λ j l h. absurd (omega arith))

pub first_place : FirstPlace
first_place test n = from_zero (first_failing test 0 n) (first_from test 0 n)
  where
    from_zero : (o : Option ℕ) → MatchOption o ((j : ℕ) → 0 ≤ j → j < 0 + n → test j ≡ true) (λ k. (k < 0 + n) × (test k ≡ false) × ((j : ℕ) → 0 ≤ j → j < k → test j ≡ true))
        → MatchOption o ((i : ℕ) → i < n → test i ≡ true) (λ k. (k < n) × (test k ≡ false) × ((i : ℕ) → i < k → test i ≡ true))
    from_zero None f = λ j h. f j (omega arith) (omega arith)
    from_zero (Some k) f = (let h = f.0 in omega arith, f.1, λ j h. f.2 j (omega arith) h)
