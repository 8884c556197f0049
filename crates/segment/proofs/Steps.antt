-- Whether each step has a byte, byte by byte. Assumes nothing.
use Rattle.std.proofs.Common.{◌≡◌, ℕ, ◌<◌, Bool, true, false, cond, not, ◌&&◌, ◌||◌, eqb, List, [], ◌∷◌, length, sym, refl, ap, ◌∙◌, arith}
use Rattle.std.proofs.lemmas.Bool.{ne_eqb}
use Rattle.std.specs.List.{fold}
use Rattle.facet.proofs.Paths.{split_some}
use Rattle.facet.specs.Paths.{steps}
use Rattle.facet.specs.Pieces.{grow, split}
use Rattle.segment.specs.Columns.{full}

-- at true the step has a byte already
abbrev pub full_from : Bool → List ℕ → Bool
full_from begun [] = begun
full_from begun (b ∷ bs) = cond (eqb b 0) (begun && full_from false bs) (full_from true bs)

-- the first of the steps has a byte or began before
abbrev full_with : Bool → List (List ℕ) → Bool
full_with begun [] = begun
full_with begun (s ∷ ss) = (begun || not (eqb (length s) 0)) && full ss

with_first : (n : Bool) (ss : List (List ℕ)) → full_with n ([] ∷ ss) ≡ (n && full ss)
with_first true ss = refl
with_first false ss = refl

with_grown : (n : Bool) (b : ℕ) (ss : List (List ℕ)) → full_with n (grow b ss) ≡ full_with true ss
with_grown true b [] = refl
with_grown true b (s ∷ ss) = refl
with_grown false b [] = refl
with_grown false b (s ∷ ss) = ap (λ (u : Bool). not u && full ss) (ne_eqb (length (b ∷ s)) 0 (λ e. omega arith))

with_none : (ss : List (List ℕ)) → 0 < length ss → full_with false ss ≡ full ss
with_none [] h = absurd (omega arith)
with_none (s ∷ ss) h = refl

full_with_split : (n : Bool) (xs : List ℕ) → full_with n (split 0 xs) ≡ full_from n xs
full_with_split true [] = refl
full_with_split false [] = refl
full_with_split n (b ∷ xs) = cut (eqb b 0) (full_with_split false xs) (full_with_split true xs)
  where
    cut : (t : Bool) → full_with false (split 0 xs) ≡ full_from false xs → full_with true (split 0 xs) ≡ full_from true xs → full_with n (cond t ([] ∷ split 0 xs) (grow b (split 0 xs))) ≡ cond t (n && full_from false xs) (full_from true xs)
    cut true f g = with_first n (split 0 xs) ∙ ap (λ (u : Bool). n && u) (sym (with_none (split 0 xs) (split_some 0 xs)) ∙ f)
    cut false f g = with_grown n b (split 0 xs) ∙ g

pub full_steps : (xs : List ℕ) → (length xs ≡ 0 → ⊥) → full (steps xs) ≡ full_from false xs
full_steps [] n = absurd (n refl)
full_steps (b ∷ xs) n = sym (with_none (split 0 (b ∷ xs)) (split_some 0 (b ∷ xs))) ∙ full_with_split false (b ∷ xs)

-- whether every step so far has a byte, if the last goes on, and the byte before, one byte on
abbrev pub step_more : Bool × ℕ → ℕ → Bool × ℕ
step_more s b = (s.0 && (not (eqb s.1 0) || not (eqb b 0)), b)

abbrev pub all_full : Bool × ℕ → Bool
all_full s = s.0 && not (eqb s.1 0)

steps_fold : (xs : List ℕ) (f : Bool) (p : ℕ) → all_full (fold step_more (f, p) xs) ≡ (f && full_from (not (eqb p 0)) xs)
steps_fold [] f p = refl
steps_fold (b ∷ xs) f p = steps_fold xs (f && (not (eqb p 0) || not (eqb b 0))) b ∙ cut f (not (eqb p 0)) (eqb b 0)
  where
    cut : (f n t : Bool) → ((f && (n || not t)) && full_from (not t) xs) ≡ (f && cond t (n && full_from false xs) (full_from true xs))
    cut false n t = refl
    cut true true true = refl
    cut true true false = refl
    cut true false true = refl
    cut true false false = refl

pub full_fold : (xs : List ℕ) → (length xs ≡ 0 → ⊥) → full (steps xs) ≡ all_full (fold step_more (true, 0) xs)
full_fold xs n = full_steps xs n ∙ sym (steps_fold xs true 0)
