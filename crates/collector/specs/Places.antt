-- The collectors within a combination, each named by its place. Assumes nothing.
use Rattle.std.specs.Prelude.{Bool, true, ◌&&◌, ◌⊎◌, Some, None, Option}
use Rattle.std.proofs.Common.{inl, inr}
use Rattle.collector.specs.Combined.{pair_of, same_pair, triple_of, same_triple}
use Rattle.collector.specs.Facets.{Faceted}
use Rattle.collector.specs.Meaning.{Meaning}

-- the places within collectors of one kind
pub record Places (C V : Type 0) : Type 1 where
  pub Place : Type 0
  -- what a fruit at a place means
  pub At : Place → Type 0
  -- whether no switch around the place is off
  pub on : C → Place → Bool
  -- what the collector there means alone, and the view of its fruit in the whole's
  pub part : C → (p : Place) → Meaning (At p)
  pub view : (p : Place) → V → Option (At p)
  -- whether two collectors are alike there
  pub same_at : Place → C → C → Bool
  -- which facets are counted there, if any
  pub counting : C → (p : Place) → Option (Faceted (At p))

-- the collector itself, by what it means and which facets it counts
abbrev pub itself : {C V : Type 0} → (C → Meaning V) → (C → C → Bool) → (C → Option (Faceted V)) → Places C V
itself {C} {V} meaning same facets = record {
  Place = Unit {0};
  At = λ _. V;
  on = λ _ _. true;
  part = λ c _. meaning c;
  view = λ _ v. Some v;
  same_at = λ _. same;
  counting = λ c _. facets c;
}

-- it counts no facets
abbrev pub no_facets : {C V : Type 0} → C → Option (Faceted V)
no_facets c = None

abbrev pub then : {A B : Type 0} → (A → Option B) → Option A → Option B
then f None = None
then f (Some a) = f a

-- the places of a collector inside, which is on where `gate` says so, and whose fruit is seen by `see`
abbrev pub inside : {C A U V : Type 0} → (C → Bool) → (C → A) → (V → Option U) → Places A U → Places C V
inside gate inner see ps = record {
  Place = ps.Place;
  At = ps.At;
  on = λ c p. gate c && ps.on (inner c) p;
  part = λ c p. ps.part (inner c) p;
  view = λ p v. then (ps.view p) (see v);
  same_at = λ p c d. ps.same_at p (inner c) (inner d);
  counting = λ c p. ps.counting (inner c) p;
}

abbrev pub either : {P Q : Type 0} → (P → Type 0) → (Q → Type 0) → P ⊎ Q → Type 0
either A B (inl p) = A p
either A B (inr q) = B q

abbrev pub or : {P Q : Type 0} {A : P → Type 0} {B : Q → Type 0} (F : Type 0 → Type 0) → ((p : P) → F (A p)) → ((q : Q) → F (B q)) → (r : P ⊎ Q) → F (either A B r)
or F f g (inl p) = f p
or F f g (inr q) = g q

-- these places and those
abbrev pub beside : {C V : Type 0} → Places C V → Places C V → Places C V
beside {C} {V} ps qs = record {
  Place = ps.Place ⊎ qs.Place;
  At = either ps.At qs.At;
  on = λ c. or {A = λ _. Unit {0}} {B = λ _. Unit {0}} (λ _. Bool) (ps.on c) (qs.on c);
  part = λ c. or Meaning (ps.part c) (qs.part c);
  view = or (λ W. V → Option W) ps.view qs.view;
  same_at = or {A = λ _. Unit {0}} {B = λ _. Unit {0}} (λ _. C → C → Bool) ps.same_at qs.same_at;
  counting = λ c. or (λ W. Option (Faceted W)) (ps.counting c) (qs.counting c);
}

-- ---- combinations

abbrev pub pair_places : {A B U V : Type 0} → (A → Meaning U) → (B → Meaning V) → (A → A → Bool) → (B → B → Bool) → Places A U → Places B V → Places (A × B) (U × V)
pair_places a b same-a same-b ps qs =
    beside (itself (pair_of a b) (same_pair same-a same-b) no_facets)
    (beside (inside (λ _. true) (λ c. c.0) (λ v. Some v.0) ps) (inside (λ _. true) (λ c. c.1) (λ v. Some v.1) qs))

-- the triple, and the places of its three: the pair of the others, by which it is meant, is none
abbrev pub triple_places : {A B C U V W : Type 0} → (A → Meaning U) → (B → Meaning V) → (C → Meaning W) → (A → A → Bool) → (B → B → Bool) → (C → C → Bool) → Places A U → Places B V → Places C W → Places (A × B × C) (U × (V × W))
triple_places a b c same-a same-b same-c ps qs rs =
    beside (itself (triple_of a b c) (same_triple same-a same-b same-c) no_facets)
    (beside (inside (λ _. true) (λ t. t.0) (λ v. Some v.0) ps)
    (beside (inside (λ _. true) (λ t. t.1) (λ v. Some v.1.0) qs) (inside (λ _. true) (λ t. t.2) (λ v. Some v.1.1) rs)))

-- by whether it is on, and its collector
abbrev pub switch_places : {S C V : Type 0} → (S → Meaning (Option V)) → (S → S → Bool) → (S → Bool) → (S → C) → Places C V → Places S (Option V)
switch_places meaning same isOn inner ps = beside (itself meaning same no_facets) (inside isOn inner (λ v. v) ps)
