-- What the calls of a collector answer. Assumes nothing.
use Rattle.std.specs.Prelude.{◌≡◌, ℕ, Bool, cond, List, [], ◌∷◌, map, Some, None, Ok, Err, Option, Result, nat_lt, Float}
use Rattle.docset.specs.Pairs.{zero_score}
use Rattle.segment.specs.Columns.{asked}
use Rattle.collector.specs.declared.fault.CollectingFault.{CollectingFault}
use Rattle.collector.specs.declared.fault.CollectingFault.TheVariants.{NoDocument, Unfit}
use Rattle.collector.specs.declared.fault.OpeningFault.{OpeningFault}
use Rattle.collector.specs.Contents.{Contents}
use Rattle.collector.specs.Meaning.{Meaning}

-- a child for a segment that is not refused, opened and blank; or the refusal
abbrev pub Opens : {V K : Type 0} → Meaning V → (K → Type 0) → (K → V) → Contents → Result K OpeningFault → Type 0
Opens m opened held s (Ok k) = (m.refusal s ≡ None) × opened k × (held k ≡ m.blank)
Opens m opened held s (Err e) = m.refusal s ≡ Some e

-- v joined with what a document with its score is worth
abbrev pub more : {V : Type 0} → Meaning V → ℕ → Contents → V → ℕ × Float → V
more m n s v p = m.join v (m.worth n s p.0 p.1)

-- whether that fits
abbrev pub more_fits : {V : Type 0} → Meaning V → ℕ → Contents → V → ℕ × Float → Bool
more_fits m n s v p = m.fits (more m n s v p)

-- why a fruit that means v refuses a document: it is not in the segment, or the fruit with it would not fit
abbrev pub collecting_fault : {V : Type 0} → Meaning V → ℕ → Contents → V → ℕ × Float → Option CollectingFault
collecting_fault m n s v p = cond (nat_lt p.0 s.docs) (cond (more_fits m n s v p) None (Some Unfit)) (Some NoDocument)

-- what is left at the first refusal
abbrev pub unless : {V : Type 0} → Option CollectingFault → V → V × Option CollectingFault → V × Option CollectingFault
unless None v next = next
unless (Some e) v next = (v, Some e)

-- the value after documents with their scores, one by one up to the first refused one, and its refusal
abbrev pub gathered : {V : Type 0} → Meaning V → ℕ → Contents → V → List (ℕ × Float) → V × Option CollectingFault
gathered m n s v [] = (v, None)
gathered m n s v (p ∷ ps) = unless (collecting_fault m n s v p) v (gathered m n s (more m n s v p) ps)

-- documents of a block have the score 0.0
abbrev pub block : List ℕ → List (ℕ × Float)
block ds = map (λ d. (d, zero_score)) ds

-- a child that was opened collects documents
pub record Collects {V K : Type 0} (m : Meaning V) (opened : K → Type 0) (held : K → V) (n : ℕ) (s : Contents) (ps : List (ℕ × Float)) (was new : K) (r : Result (Unit {0}) CollectingFault) : Type 0 where
  pub answer : r ≡ asked (gathered m n s (held was) ps).1
  pub holds : held new ≡ (gathered m n s (held was) ps).0
  pub still : opened new

-- a document is added to such a child
pub record Adds {V K : Type 0} (m : Meaning V) (opened : K → Type 0) (held : K → V) (n : ℕ) (s : Contents) (p : ℕ × Float) (was new : K) : Type 0 where
  pub holds : held new ≡ more m n s (held was) p
  pub still : opened new

-- the join of two values, or a refusal where it does not fit
abbrev pub merged : {V : Type 0} → Meaning V → V → V → Result V CollectingFault
merged m u v = cond (m.fits (m.join u v)) (Ok (m.join u v)) (Err Unfit)
