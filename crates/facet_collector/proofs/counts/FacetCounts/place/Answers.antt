use Rattle.std.proofs.Common.{rules}
use Rattle.std.proofs.lemmas.List.Sorted.{answers_always}
use Rattle.facet_collector.proofs.Sums.{from_sound}
use Rattle.facet_collector.proofs.Places.{found}
use Rattle.facet_collector.proofs.counts.FacetCounts.place.Goals as goal

pub returns : goal.returns
returns c =
    let facts = c.binary_search_by_key.ensures in
    let by_facet = facts.position (λ e. e.0) (answers_always _ _ _ (λ f a r g called. search rules)) in
    rw (← c.as_slice.ensures.value) (found _ c.args.facet.now _ (rw c.as_slice.ensures.value (from_sound _ c.as_slice.ensures.sound).0) facts.bound by_facet)
