-- Each collector within a combination holds what it would hold alone. Assumes nothing.
use Rattle.std.proofs.Common.{◌≡◌, ℕ, Bool, List, [], ◌∷◌, Some, Ok, Err, Option, Result, refl, ap, ◌∙◌}
use lib.Ieee.{Float}
use Rattle.std.proofs.lemmas.List.Sorted.{IsPermutation-refl}
use Rattle.collector.specs.declared.fault.CollectorFault.{CollectorFault}
use Rattle.collector.specs.Collections.{documents, Accepted, Joined, Alone}
use Rattle.collector.specs.Contents.{Contents}
use Rattle.collector.specs.Meaning.{Meaning, Collected, joined}
use Rattle.collector.specs.Parts.{Part, Parted}
use Rattle.collector.specs.Places.{Places}

module _ {V W : Type 0} {m : Meaning V} {x : Meaning W} {f : V → Option W} (part : Part m x f) where
  -- the view of what documents are worth
  pub seen : (ds : List Collected) → f (joined m ds) ≡ Some (joined x ds)
  seen [] = part.blanks
  seen (d ∷ ds) = part.joins _ _ _ _ (part.worths _ _ _ _) (seen ds)

  pub part_accepts : (n : ℕ) (s : Contents) (ps : List (ℕ × Float)) → Accepted m n s ps → Accepted x n s ps
  part_accepts n s ps a = record {
    unrefused = part.accepts s a.unrefused;
    within = a.within;
    fit = part.fit _ _ (seen (documents n s ps)) a.fit;
  }

pub alone : {C V : Type 0} {meaning : C → Meaning V} {same : C → C → Bool} {ps : Places C V} → Parted meaning same ps → (c : C) (n : ℕ) (s : Contents) (qs : List (ℕ × Float)) (r : Result V CollectorFault) → Joined (meaning c) n s qs r → Alone ps c n s qs r
alone {ps} h c n s qs (Ok v) j p o =
    let part = h.part_at c p o in
    (ap (ps.view p) (j.worths qs (IsPermutation-refl qs)) ∙ seen part (documents n s qs), part_accepts part n s qs (j.accepted.0 refl))
alone h c n s qs (Err e) j p o = tt
