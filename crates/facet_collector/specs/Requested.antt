-- How requested facets lie in their array: the first `len` of it. Assumes nothing.
use Rattle.std.specs.Prelude.{◌≡◌, ℕ, ◌≤◌, true, List, length, take}
use Rattle.facet_collector.specs.Children.{requestable}
use Rattle.facet_collector.specs.declared.requests.Requests.TheInside.{Inside}

abbrev pub requested : Inside → List (List ℕ)
requested r = take r.len r.facets

pub record IsRequested (r : Inside) : Type 0 where
  pub full : length r.facets ≡ 16
  pub within : r.len ≤ 16
  pub requestable : requestable (requested r) ≡ true
