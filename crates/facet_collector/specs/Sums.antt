-- The laws of `sums`. Assumes nothing.
use Rattle.std.specs.Prelude.{◌≡◌, ℕ, ◌+◌, true, List, []}
use Rattle.collector.specs.Facets.{count_of}
use Rattle.facet_collector.specs.Entries.{sums, sound, fits}

pub record SumLaws : Type 0 where
  pub sounds : (xs ys : List (List ℕ × ℕ)) → sound xs ≡ true → sound ys ≡ true → sound (sums xs ys) ≡ true
  pub counts : (xs ys : List (List ℕ × ℕ)) (q : List ℕ) → sound xs ≡ true → sound ys ≡ true → count_of (sums xs ys) q ≡ count_of xs q + count_of ys q
  -- equal counts are those of one list
  pub same : (xs ys : List (List ℕ × ℕ)) → sound xs ≡ true → sound ys ≡ true → ((q : List ℕ) → count_of xs q ≡ count_of ys q) → xs ≡ ys
  pub assoc : (xs ys zs : List (List ℕ × ℕ)) → sound xs ≡ true → sound ys ≡ true → sound zs ≡ true → sums (sums xs ys) zs ≡ sums xs (sums ys zs)
  pub comm : (xs ys : List (List ℕ × ℕ)) → sound xs ≡ true → sound ys ≡ true → sums xs ys ≡ sums ys xs
  pub neutral : (xs : List (List ℕ × ℕ)) → sound xs ≡ true → sums [] xs ≡ xs
  -- a part of what fits fits
  pub part_fits : (xs ys : List (List ℕ × ℕ)) → fits (sums xs ys) ≡ true → fits xs ≡ true
