use Rattle.std.proofs.Common.{ℕ, ◌≡◌, List, length, take, sym, ap, ◌∙◌, arith}
use Rattle.std.proofs.lemmas.List.{length-take-le}
use Rattle.facet_collector.specs.Entries.{put}
use Rattle.facet_collector.specs.Placed.{Between}
use Rattle.facet_collector.proofs.Places.{new_fits, new_unfit_many, new_unfit_large, put_new}
use Rattle.facet_collector.proofs.Sums.{put_sound}
use Rattle.facet_collector.proofs.counts.FacetCounts.insert.Goals as goal
use Rattle.facet_collector.proofs.counts.FacetCounts.insert.Goals.{then-self-eq-MOST_ENTRIES-via-then-self-eq-MOST_ENTRIES, then-self-eq-MOST_ENTRIES-via-else-self-eq-MOST_ENTRIES+then-count-gt-MOST_COUNT}

pub returns-then-self-eq-MOST_ENTRIES-clause-put : goal.returns-then-self-eq-MOST_ENTRIES-clause-put
returns-then-self-eq-MOST_ENTRIES-clause-put c =
    let es = c.args.self.now in
    let p = c.requires.place in
    let full : c.self.inside.len ≡ 128 → length es ≡ 128 = λ q. sym (ap length c.self.view_is) ∙ length-take-le c.self.inside.len c.self.inside.entries (let f = c.self.invariant.full in omega arith) ∙ q in
    elim c.then-self-eq-MOST_ENTRIES.branch [
      | then-self-eq-MOST_ENTRIES-via-then-self-eq-MOST_ENTRIES w ↦ new_unfit_many es c.args.at c.args.facet c.args.count p (full w.if-self-eq-MOST_ENTRIES.true)
      | then-self-eq-MOST_ENTRIES-via-else-self-eq-MOST_ENTRIES+then-count-gt-MOST_COUNT w ↦ new_unfit_large es c.args.at c.args.facet c.args.count p w.if-count-gt-MOST_COUNT.true
    ]

pub invariant_of-self : goal.invariant_of-self
invariant_of-self c =
    let es = take c.self.inside.len c.self.inside.entries in
    let f = c.args.facet in
    let n = c.args.count in
    let p : Between es f c.args.at = rw c.self.view_is c.requires.place in
    let e = c.shift_in.ensures.front ∙ sym (put_new es c.args.at f n p) in
    let l = length-take-le c.self.inside.len c.self.inside.entries (let f = c.self.invariant.full in let w = c.self.invariant.within in omega arith) in
    record {
      full = c.shift_in.ensures.len ∙ c.self.invariant.full;
      within = let w = c.self.invariant.within in let d = c.if-self-eq-MOST_ENTRIES.false in omega arith;
      sound = rw e (put_sound f n es c.requires.count c.self.invariant.sound);
      fits = rw e (new_fits es c.args.at f n p c.self.invariant.fits (let w = c.self.invariant.within in let d = c.if-self-eq-MOST_ENTRIES.false in omega arith) c.if-count-gt-MOST_COUNT.false);
    }

pub returns-clause-put : goal.returns-clause-put
returns-clause-put c =
    let es = take c.self.inside.len c.self.inside.entries in
    let p : Between es c.args.facet c.args.at = rw c.self.view_is c.requires.place in
    c.shift_in.ensures.front ∙ sym (put_new es c.args.at c.args.facet c.args.count p) ∙ ap (λ (es : List (List ℕ × ℕ)). put c.args.facet c.args.count es) c.self.view_is
