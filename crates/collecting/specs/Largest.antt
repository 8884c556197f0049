-- The largest document number seen. Assumes nothing.
use Rattle.std.specs.Prelude.{◌≡◌, ℕ, true, false, max, Some, None, Option, refl}
use Rattle.std.proofs.Common.{ap, arith, rules}
use Rattle.collector.specs.Meaning.{Meaning, Laws}

-- the larger of two, where they are there
abbrev pub larger : Option ℕ → Option ℕ → Option ℕ
larger None v = v
larger (Some a) None = Some a
larger (Some a) (Some b) = Some (max a b)

-- a document is worth its number
abbrev pub largest_m : Meaning (Option ℕ)
largest_m = record {
  blank = None;
  join = larger;
  worth = λ _ _ d _. Some d;
  refusal = λ _. None;
  fits = λ _. true;
  scored = false;
  has = λ _. true;
}

assoc : (u v w : Option ℕ) → larger (larger u v) w ≡ larger u (larger v w)
assoc None v w = refl
assoc (Some a) None w = refl
assoc (Some a) (Some b) None = refl
assoc (Some a) (Some b) (Some c) = let e : max (max a b) c ≡ max a (max b c) = omega arith in ap Some e

comm : (u v : Option ℕ) → larger u v ≡ larger v u
comm None None = refl
comm None (Some b) = refl
comm (Some a) None = refl
comm (Some a) (Some b) = let e : max a b ≡ max b a = omega arith in ap Some e

pub largest_lawful : Laws largest_m
largest_lawful = record {
  blank_has = refl;
  join_has = λ u v _ _. refl;
  worth_has = λ n s d x. refl;
  assoc = λ u v w _ _ _. assoc u v w;
  comm = λ u v _ _. comm u v;
  neutral = λ u _. refl;
  blank_fits = refl;
  part_fits = λ u v _ _ _. refl;
  unscored = λ _ n s d x y. refl;
}
