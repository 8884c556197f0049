-- The first pair that is still to come, and those behind it. Assumes nothing.
use Rattle.std.proofs.Common.{◌≡◌, ℕ, suc, ◌+◌, ◌-◌, ◌<◌, ◌≤◌, List, [], ◌∷◌, length, refl, ap, arith}
use lib.Ieee.{Float}
use Rattle.std.specs.List.{slice_get, zip}
use Rattle.std.specs.Option.{unwrap_or}
use Rattle.docset.specs.Pairs.{all_from, first_score, one_score, zero_score}

pub all_more : (d n : ℕ) → d < n → all_from d (n - d) ≡ (d, one_score) ∷ all_from (d + 1) (n - (d + 1))
all_more d n h = let e : n - d ≡ suc (n - (d + 1)) = omega arith in ap (all_from d) e

pub all_none : (d n : ℕ) → n ≤ d → all_from d (n - d) ≡ []
all_none d n h = let e : n - d ≡ 0 = omega arith in ap (all_from d) e

pub first_score-zip : (ds : List ℕ) (ss : List Float) → length ds ≡ length ss → first_score (zip ds ss) ≡ unwrap_or (slice_get ss 0) zero_score
first_score-zip [] [] e = refl
first_score-zip [] (s ∷ ss) e = absurd (omega arith)
first_score-zip (d ∷ ds) [] e = absurd (omega arith)
first_score-zip (d ∷ ds) (s ∷ ss) e = refl
