use Rattle.std.proofs.lemmas.Slice.Eq.{bytes_eq-Decides, slice_eq-Decides}
use Rattle.facet_collector.proofs.requests.RequestsPartialEq.eq.Goals as goal

pub returns-clause-decides : goal.returns-clause-decides
returns-clause-decides c = slice_eq-Decides bytes_eq-Decides _ _ _ (rw (c.as_slice.ensures.value, c.as_slice-2.ensures.value) at c.eq.ensures)
