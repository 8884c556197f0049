-- What a scorer is refused for, in the order of the questions. Assumes nothing.
use Rattle.std.specs.Prelude.{◌≡◌, ℕ, suc, ◌<◌, cond, List, [], length, Ok, Err, Result, ◌==◌, nat_le, slice_index, Float}
use Rattle.docset.specs.declared.fault.ScorerFault.{ScorerFault}
use Rattle.docset.specs.declared.fault.ScorerFault.TheVariants.{NotRising, ScoreCount}
use Rattle.docset.specs.Pairs.{rises, terminated}

-- all documents below a number
abbrev pub all_check : ℕ → Result Unit ScorerFault
all_check n = cond (nat_le n terminated) (Ok tt) (Err NotRising)

-- documents, and their scores
abbrev pub held_check : List ℕ → List Float → Result Unit ScorerFault
held_check docs scores =
    cond (rises docs) (cond (length docs == length scores) (Ok tt) (Err ScoreCount)) (Err NotRising)

-- what the check of documents and scores asks, place by place
pub record Fit (docs : List ℕ) (scores : List Float) : Type 0 where
  pub rising : (k : ℕ) → suc k < length docs → slice_index docs k < slice_index docs (suc k)
  pub below : (k : ℕ) → k < length docs → slice_index docs k < terminated
  pub scored : length docs ≡ length scores

-- nothing where the check refuses
abbrev pub accepted : Result Unit ScorerFault → List (ℕ × Float) → List (ℕ × Float)
accepted (Ok u) ps = ps
accepted (Err e) ps = []
