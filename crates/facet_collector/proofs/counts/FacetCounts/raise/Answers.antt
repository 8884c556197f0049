use Rattle.std.proofs.Common.{◌∙◌, arith}
use Rattle.std.proofs.lemmas.List.{length-set}
use Rattle.facet_collector.specs.Placed.{facet_at}
use Rattle.facet_collector.proofs.Places.{fit_read, raised, small_read, unfit_read}
use Rattle.facet_collector.proofs.Sums.{from_sound, put_sound}
use Rattle.facet_collector.proofs.counts.FacetCounts.raise.Goals as goal

pub overflow_sub-counted : goal.overflow_sub-counted
overflow_sub-counted c =
    let s = c.as_slice.ensures in
    rw s.value (small_read c.args.self.now c.args.at c.index-as_slice-at-2.result s.fits c.requires.place)

pub returns-then-count-counted-clause-put : goal.returns-then-count-counted-clause-put
returns-then-count-counted-clause-put c =
    let s = c.as_slice.ensures in
    unfit_read c.args.self.now c.args.at c.args.count c.index-as_slice-at-2.result (from_sound _ s.sound).0 c.requires.place
    (rw (← s.value) (omega (arith, c.if-count-counted.true)))

pub invariant_of-self : goal.invariant_of-self
invariant_of-self c =
    let s = c.as_slice.ensures in
    let es = c.args.self.now in
    let r = (from_sound es s.sound).0 in
    let e = raised c.self.inside.entries es c.self.inside.len c.args.at c.args.count c.index-as_slice-at.result c.index-as_slice-at-2.result c.self.view_is r c.requires.place in
    let m = small_read es c.args.at c.index-as_slice-at-2.result s.fits c.requires.place in
    let l = rw s.value at c.if-count-counted.false in
    rw s.value record {
      full = length-set _ _ _ ∙ c.self.invariant.full;
      within = c.self.invariant.within;
      sound = rw e (put_sound (facet_at es c.args.at) c.args.count es c.requires.count s.sound);
      fits = rw e (fit_read es c.args.at c.args.count c.index-as_slice-at-2.result r s.fits c.requires.place (omega arith));
    }

pub returns-clause-put : goal.returns-clause-put
returns-clause-put c =
    let s = c.as_slice.ensures in
    rw s.value (raised c.self.inside.entries c.args.self.now c.self.inside.len c.args.at c.args.count c.index-as_slice-at.result c.index-as_slice-at-2.result
    c.self.view_is (from_sound _ s.sound).0 c.requires.place)
