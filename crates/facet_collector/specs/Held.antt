-- How counts by facet lie in their array: the first `len` of it. Assumes nothing.
use Rattle.std.specs.Prelude.{◌≡◌, ℕ, ◌≤◌, true, List, length, take}
use Rattle.facet_collector.specs.Entries.{sound, fits}
use Rattle.facet_collector.specs.declared.counts.FacetCounts.TheInside.{Inside}

abbrev pub held : Inside → List (List ℕ × ℕ)
held c = take c.len c.entries

pub record IsHeld (c : Inside) : Type 0 where
  pub full : length c.entries ≡ 128
  pub within : c.len ≤ 128
  pub sound : sound (held c) ≡ true
  pub fits : fits (held c) ≡ true
