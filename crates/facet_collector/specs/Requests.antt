-- Requested facets by their encodings, and a cursor among them. Assumes nothing.
use Rattle.std.specs.Prelude.{◌≡◌, ℕ, ◌<◌, ◌≤◌, List, [], length, take, Some, None, Option, ◌≢◌, slice_index_or}
use Rattle.std.specs.declared.cmp.Ordering.TheVariants.{Greater}
use Rattle.facet.specs.Paths.{depth, order}
use Rattle.facet_collector.specs.Children.{request_of, leads, children, collapsed, first_below, last_of, nothing, slot_of}

-- the first `at` of them do not stand behind the term, and the next does
pub record Sought (rs : List (List ℕ)) (t : List ℕ) (at : ℕ) : Type 0 where
  pub within : at ≤ length rs
  pub passed : (k : ℕ) → k < at → order (slice_index_or rs k []) t ≢ Greater
  pub past : at < length rs → order (slice_index_or rs at []) t ≡ Greater

-- where in a term the child ends that it leads to, and the requested facet's depth
pub record Ends (rs : List (List ℕ)) (t : List ℕ) (end deep : ℕ) : Type 0 where
  pub child : take end t ≡ leads rs t
  pub length_is : end ≡ length (leads rs t)
  pub some : 0 < end
  pub request : (r : List ℕ) × (request_of rs t ≡ Some r) × (deep ≡ depth r)

-- where a walk over the terms stands before term i: `at` requested facets do not stand behind what comes; there are n children so far, the last
-- is `child`, and `first` is the first ordinal at or below it
pub record Walked (rs ts : List (List ℕ)) (i at n : ℕ) (child : List ℕ) (first : ℕ) : Type 0 where
  pub cursor : at ≤ length rs
  pub sought : (k j : ℕ) → k < at → i ≤ j → j < length ts → order (slice_index_or rs k []) (slice_index_or ts j []) ≢ Greater
  pub number : n ≡ length (children rs (take i ts))
  pub few : n ≤ 128
  pub last : child ≡ last_of (children rs (take i ts))
  pub begun : 0 < length child → first ≡ first_below ts child

-- what is told of term i: nothing, or what its ordinal maps to and the number of its child
abbrev pub Told : List (List ℕ) → List (List ℕ) → ℕ → Option ((ℕ × ℕ) × ℕ) → Type 0
Told rs ts i None = length (leads rs (slice_index_or ts i [])) ≡ 0
Told rs ts i (Some m) = (m.0 ≡ collapsed rs ts i) × (Some m.1 ≡ slot_of (children rs ts) (leads rs (slice_index_or ts i [])))

-- what the ordinals of terms are collapsed to: each one's child by its number, and what the ordinal maps to
pub record Collapses (rs ts : List (List ℕ)) (mapping : List (ℕ × ℕ)) (slots : List (Option ℕ)) : Type 0 where
  pub few : length (children rs ts) ≤ 128
  pub full : (length mapping ≡ 4096) × (length slots ≡ 4096)
  pub slotted : (o : ℕ) → o < length ts → slice_index_or slots o None ≡ slot_of (children rs ts) (leads rs (slice_index_or ts o []))
  pub mapped : (o : ℕ) → o < length ts → slice_index_or mapping o nothing ≡ collapsed rs ts o
