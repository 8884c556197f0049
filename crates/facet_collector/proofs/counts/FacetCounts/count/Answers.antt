use Rattle.std.proofs.Common.{List, ℕ, [], sym, ap, ◌∙◌}
use Rattle.std.proofs.lemmas.List.{get_or_read}
use Rattle.collector.specs.Facets.{count_of}
use Rattle.facet_collector.proofs.Sums.{from_sound}
use Rattle.facet_collector.proofs.Places.{count_at, count_none}
use Rattle.facet_collector.proofs.counts.FacetCounts.count.Goals as goal

pub returns-in-Ok : goal.returns-in-Ok
returns-in-Ok c =
    let e = c.as_slice.ensures in
    let p = c.in-Ok.ensures in
    let r = get_or_read c.as_slice.result.now c.in-Ok.at c.index-as_slice-at.result (rw e.value p.0) c.index-as_slice-at.is ([], 0) in
    ap (λ (x : List ℕ × ℕ). x.1) (sym c.index-as_slice-at.is ∙ r)
    ∙ rw e.value (sym (count_at _ _ (from_sound _ e.sound).0 p.0) ∙ ap (count_of c.args.self.now) p.1)

pub returns-in-Err : goal.returns-in-Err
returns-in-Err c = sym (count_none _ _ _ c.in-Err.ensures)
