-- What a collector means, and the laws that it keeps. Assumes nothing.
use Rattle.std.specs.Prelude.{◌≡◌, ℕ, Bool, true, false, List, [], ◌∷◌, Option, Float}
use Rattle.collector.specs.declared.fault.OpeningFault.{OpeningFault}
use Rattle.collector.specs.Contents.{Contents}

-- over the values that its fruits can have
pub record Meaning (V : Type 0) : Type 0 where
  pub blank : V
  pub join : V → V → V
  -- what a document is worth, by segment ordinal, segment, document and score
  pub worth : ℕ → Contents → ℕ → Float → V
  -- why a segment is refused
  pub refusal : Contents → Option OpeningFault
  pub fits : V → Bool
  -- whether it needs scores
  pub scored : Bool
  -- whether a value is one of a fruit that it can have
  pub has : V → Bool

-- of the fruits that it can have
pub record Laws {V : Type 0} (m : Meaning V) : Type 0 where
  pub blank_has : m.has m.blank ≡ true
  pub join_has : (u v : V) → m.has u ≡ true → m.has v ≡ true → m.has (m.join u v) ≡ true
  pub worth_has : (n : ℕ) (s : Contents) (d : ℕ) (x : Float) → m.has (m.worth n s d x) ≡ true
  pub assoc : (u v w : V) → m.has u ≡ true → m.has v ≡ true → m.has w ≡ true → m.join (m.join u v) w ≡ m.join u (m.join v w)
  pub comm : (u v : V) → m.has u ≡ true → m.has v ≡ true → m.join u v ≡ m.join v u
  pub neutral : (u : V) → m.has u ≡ true → m.join m.blank u ≡ u
  pub blank_fits : m.fits m.blank ≡ true
  pub part_fits : (u v : V) → m.has u ≡ true → m.has v ≡ true → m.fits (m.join u v) ≡ true → m.fits u ≡ true
  pub unscored : m.scored ≡ false → (n : ℕ) (s : Contents) (d : ℕ) (x y : Float) → m.worth n s d x ≡ m.worth n s d y

-- a document that is collected
pub record Collected : Type 0 where
  pub ordinal : ℕ
  pub segment : Contents
  pub document : ℕ
  pub score : Float

abbrev pub worth_of : {V : Type 0} → Meaning V → Collected → V
worth_of m d = m.worth d.ordinal d.segment d.document d.score

-- the blank fruit joined with what each document is worth
abbrev pub joined : {V : Type 0} → Meaning V → List Collected → V
joined m [] = m.blank
joined m (d ∷ ds) = m.join (worth_of m d) (joined m ds)
