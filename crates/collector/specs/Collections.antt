-- Documents of one segment, collected and harvested. Assumes nothing.
use Rattle.std.specs.Prelude.{◌≡◌, ℕ, ◌<◌, true, false, ◌↔◌, List, map, is_ok, IfOk, Some, None, Ok, Err, Option, Result, Float}
use Rattle.std.specs.List.{AllByRecursion}
use Rattle.std.specs.List.Sorted.{IsPermutation}
use Rattle.docset.specs.Pairs.{docs_of}
use Rattle.collector.specs.declared.fault.CollectingFault.{CollectingFault}
use Rattle.collector.specs.declared.fault.CollectorFault.{CollectorFault}
use Rattle.collector.specs.declared.fault.CollectorFault.TheVariants.{Opening, Collecting}
use Rattle.collector.specs.declared.fault.OpeningFault.{OpeningFault}
use Rattle.collector.specs.Collecting.{gathered}
use Rattle.collector.specs.Contents.{Contents}
use Rattle.collector.specs.Meaning.{Meaning, Collected, joined}
use Rattle.collector.specs.Places.{Places}

abbrev pub finished : {V : Type 0} → Option OpeningFault → V → Option CollectingFault → Result V CollectorFault
finished (Some e) v o = Err (Opening e)
finished None v (Some e) = Err (Collecting e)
finished None v None = Ok v

-- the answer: the segment's refusal, that of the first refused document, or the value
abbrev pub collection : {V : Type 0} → Meaning V → ℕ → Contents → List (ℕ × Float) → Result V CollectorFault
collection m n s ps = finished (m.refusal s) (gathered m n s m.blank ps).0 (gathered m n s m.blank ps).1

-- the pairs of document and score, as documents of a segment
abbrev pub documents : ℕ → Contents → List (ℕ × Float) → List Collected
documents n s ps = map (λ p. record { ordinal = n; segment = s; document = p.0; score = p.1 }) ps

-- the segment is not refused, every document is in it, and all that they are worth fits
pub record Accepted {V : Type 0} (m : Meaning V) (n : ℕ) (s : Contents) (ps : List (ℕ × Float)) : Type 0 where
  pub unrefused : m.refusal s ≡ None
  pub within : AllByRecursion (λ (p : ℕ × Float). p.0 < s.docs) ps
  pub fit : m.fits (joined m (documents n s ps)) ≡ true

-- it is the blank fruit joined with what the documents are worth, in any order; and there is one exactly when they are accepted
pub record Joined {V : Type 0} (m : Meaning V) (n : ℕ) (s : Contents) (ps : List (ℕ × Float)) (r : Result V CollectorFault) : Type 0 where
  pub worths : IfOk r (λ v. (qs : List (ℕ × Float)) → IsPermutation ps qs → v ≡ joined m (documents n s qs))
  pub accepted : (is_ok r ≡ true) ↔ Accepted m n s ps

-- where no scores are needed, whatever the scores
abbrev pub AnyScores : {V : Type 0} → Meaning V → ℕ → Contents → List ℕ → Result V CollectorFault → Type 0
AnyScores m n s ds r = m.scored ≡ false → IfOk r (λ v. (qs : List (ℕ × Float)) → IsPermutation ds (docs_of qs) → v ≡ joined m (documents n s qs))

-- each collector within that is on holds what it would hold alone, and alone it accepts the same
abbrev pub Alone : {C V : Type 0} → Places C V → C → ℕ → Contents → List (ℕ × Float) → Result V CollectorFault → Type 0
Alone ps c n s qs r =
    (p : ps.Place) → ps.on c p ≡ true → IfOk r (λ v. (ps.view p v ≡ Some (joined (ps.part c p) (documents n s qs))) × Accepted (ps.part c p) n s qs)
