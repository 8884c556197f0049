-- What is still to come of each docset. Assumes nothing.
use Rattle.std.specs.Prelude.{ℕ, ◌-◌, List, Float}
use Rattle.std.proofs.Common.{arith}
use Rattle.std.specs.List.{zip}
use Rattle.docset.specs.declared.all.AllDocs.{AllDocs}
use Rattle.docset.specs.declared.held.Held.{Held}
use Rattle.docset.specs.Pairs.{Rising, all_from}
use Rattle.docset.specs.Rises.{all_from_rising, zip_rising}

-- from the next document up to the number
abbrev pub all_coming : AllDocs → List (ℕ × Float)
all_coming a = all_from a.doc (a.number - a.doc)

pub all_rising : (a : AllDocs) → Rising (all_coming a)
all_rising a = let below = a.below in all_from_rising a.doc (a.number - a.doc) (λ h. omega arith)

-- each document with its score
abbrev pub held_coming : Held → List (ℕ × Float)
held_coming h = zip h.docs.now h.scores.now

pub held_rising : (h : Held) → Rising (held_coming h)
held_rising h = zip_rising h.docs.now h.scores.now h.rising h.scored
