-- What holds at each place within a combination. Assumes nothing.
use Rattle.std.specs.Prelude.{◌≡◌, ℕ, Bool, true, Some, None, Option, Float}
use Rattle.collector.specs.Contents.{Contents}
use Rattle.collector.specs.Facets.{Faceted, CountsFacets}
use Rattle.collector.specs.Meaning.{Meaning, Laws}
use Rattle.collector.specs.Places.{Places}

-- the collector x, whose fruit is seen by f in that of the collector m
pub record Part {V W : Type 0} (m : Meaning V) (x : Meaning W) (f : V → Option W) : Type 0 where
  pub blanks : f m.blank ≡ Some x.blank
  pub worths : (n : ℕ) (s : Contents) (d : ℕ) (y : Float) → f (m.worth n s d y) ≡ Some (x.worth n s d y)
  pub joins : (u v : V) (a b : W) → f u ≡ Some a → f v ≡ Some b → f (m.join u v) ≡ Some (x.join a b)
  pub accepts : (s : Contents) → m.refusal s ≡ None → x.refusal s ≡ None
  pub fit : (u : V) (a : W) → f u ≡ Some a → m.fits u ≡ true → x.fits a ≡ true
  pub scores : x.scored ≡ true → m.scored ≡ true

pub record Parted {C V : Type 0} (meaning : C → Meaning V) (same : C → C → Bool) (ps : Places C V) : Type 0 where
  pub lawful_at : (c : C) (p : ps.Place) → Laws (ps.part c p)
  pub part_at : (c : C) (p : ps.Place) → ps.on c p ≡ true → Part (meaning c) (ps.part c p) (ps.view p)
  -- alike wholes have the same places on, and are alike at each
  pub level : (c d : C) → same c d ≡ true → (p : ps.Place) → ps.on c p ≡ ps.on d p
  pub alike_at : (c d : C) → same c d ≡ true → (p : ps.Place) → ps.on c p ≡ true → ps.same_at p c d ≡ true
  pub agree_at : (c d : C) (p : ps.Place) → ps.same_at p c d ≡ true → ps.part c p ≡ ps.part d p
  pub counts_at : (c : C) (p : ps.Place) (f : Faceted (ps.At p)) → ps.counting c p ≡ Some f → CountsFacets (ps.part c p) f
