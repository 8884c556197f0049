-- The number of each refusal of a scorer. Assumes nothing.
use Rattle.std.specs.Prelude.{ℕ}
use Rattle.docset.specs.declared.fault.ScorerFault.{ScorerFault}
use Rattle.docset.specs.declared.fault.ScorerFault.TheVariants.{NotRising, ScoreCount}

-- documents that do not rise strictly below the end; not as many scores as documents
abbrev pub number_of : ScorerFault → ℕ
number_of NotRising = 26
number_of ScoreCount = 27
