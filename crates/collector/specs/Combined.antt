-- What collectors mean that are made of others. Assumes nothing.
use Rattle.std.specs.Prelude.{Bool, true, false, ◌&&◌, ◌||◌, Some, None, Option}
use Rattle.std.specs.Option.{option_or}
use Rattle.collector.specs.Meaning.{Meaning}

-- two side by side, part by part; the refusal is the leftmost
abbrev pub pair_m : {U V : Type 0} → Meaning U → Meaning V → Meaning (U × V)
pair_m a b = record {
  blank = (a.blank, b.blank);
  join = λ u v. (a.join u.0 v.0, b.join u.1 v.1);
  worth = λ n s d x. (a.worth n s d x, b.worth n s d x);
  refusal = λ s. option_or (a.refusal s) (b.refusal s);
  fits = λ v. a.fits v.0 && b.fits v.1;
  scored = a.scored || b.scored;
  has = λ v. a.has v.0 && b.has v.1;
}

abbrev pub pair_of : {A B U V : Type 0} → (A → Meaning U) → (B → Meaning V) → A × B → Meaning (U × V)
pair_of a b c = pair_m (a c.0) (b c.1)

abbrev pub same_pair : {A B : Type 0} → (A → A → Bool) → (B → B → Bool) → A × B → A × B → Bool
same_pair a b c d = a c.0 d.0 && b c.1 d.1

-- a triple, seen as the pair of its first and the pair of the others
abbrev pub nested : {A B C : Type 0} → A × B × C → A × (B × C)
nested t = (t.0, (t.1, t.2))

abbrev pub triple_of : {A B C U V W : Type 0} → (A → Meaning U) → (B → Meaning V) → (C → Meaning W) → A × B × C → Meaning (U × (V × W))
triple_of a b c t = pair_of a (pair_of b c) (nested t)

abbrev pub same_triple : {A B C : Type 0} → (A → A → Bool) → (B → B → Bool) → (C → C → Bool) → A × B × C → A × B × C → Bool
same_triple a b c t u = same_pair a (same_pair b c) (nested t) (nested u)

-- a test of what is there, and else a given answer
abbrev pub when_some : {V : Type 0} → Option V → Bool → (V → Bool) → Bool
when_some None b f = b
when_some (Some v) b f = f v

abbrev pub both : {V : Type 0} → (V → V → V) → Option V → Option V → Option V
both f None v = None
both f (Some u) None = None
both f (Some u) (Some v) = Some (f u v)

-- switched off: the single fruit "none", whatever is inside
abbrev pub off_m : {V : Type 0} → Meaning (Option V)
off_m = record {
  blank = None;
  join = λ _ _. None;
  worth = λ _ _ _ _. None;
  refusal = λ _. None;
  fits = λ _. true;
  scored = false;
  has = λ v. when_some v true (λ _. false);
}

abbrev pub on_m : {V : Type 0} → Meaning V → Meaning (Option V)
on_m m = record {
  blank = Some m.blank;
  join = both m.join;
  worth = λ n s d x. Some (m.worth n s d x);
  refusal = m.refusal;
  fits = λ v. when_some v true m.fits;
  scored = m.scored;
  has = λ v. when_some v false m.has;
}

abbrev pub switch_m : {V : Type 0} → Bool → Meaning V → Meaning (Option V)
switch_m true m = on_m m
switch_m false m = off_m

-- two switches are alike when both are off, or both on over alike collectors
abbrev pub same_switch : Bool → Bool → Bool → Bool
same_switch true true alike = alike
same_switch true false alike = false
same_switch false true alike = false
same_switch false false alike = true

-- a child is there exactly when the switch is on, and was opened
abbrev pub OpenedSwitch : {K : Type 0} → Bool → (K → Type 0) → Option K → Type 0
OpenedSwitch true opened (Some k) = opened k
OpenedSwitch true opened None = ⊥
OpenedSwitch false opened (Some k) = ⊥
OpenedSwitch false opened None = Unit {0}
