use Rattle.std.proofs.Common.{sym, ◌∙◌}
use Rattle.facet_collector.proofs.Seeks.{sought_some, sought_none}
use Rattle.facet_collector.proofs.collapse.seek.Goals as goal

pub returns-in-Some : goal.returns-in-Some
returns-in-Some c =
    record { sought = sought_some _ _ c.as_slice-facets.ensures.value _ _ c.requires.within c.requires.passed _ (sym c.first_behind.ensures ∙ c.in-Some.is); requestable = c.as_slice-facets.ensures.requestable }

pub returns-in-None : goal.returns-in-None
returns-in-None c =
    record { sought = sought_none _ _ c.as_slice-facets.ensures.value _ _ c.requires.within c.requires.passed (sym c.first_behind.ensures ∙ c.in-None.is); requestable = c.as_slice-facets.ensures.requestable }
