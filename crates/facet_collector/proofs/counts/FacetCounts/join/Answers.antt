use Rattle.std.proofs.Common.{◌≡◌, sym, ap, ◌∙◌}
use Rattle.std.proofs.lemmas.Bool.{true≢false}
use Rattle.facet_collector.specs.Entries.{sums, fits}
use Rattle.facet_collector.proofs.Sums.{sums_neutral}
use Rattle.facet_collector.proofs.counts.FacetCounts.join.Goals as goal

pub returns-in_err-add_all : goal.returns-in_err-add_all
returns-in_err-add_all c =
    let s = c.as_slice.ensures in
    let e : sums c.new-counts.result c.as_slice.result.now ≡ c.args.self.now = (λ i. sums (c.new-counts.ensures i) (s.value i)) ∙ sums_neutral _ s.sound in
    absurd (true≢false (sym s.fits ∙ ap fits (sym e) ∙ c.in_err-add_all.ensures))

pub returns-in_err-add_all-2 : goal.returns-in_err-add_all-2
returns-in_err-add_all-2 c =
    let s = c.as_slice.ensures in
    let e : c.add_all.new.self ≡ c.args.self.now = c.in_ok-add_all.ensures ∙ (λ i. sums (c.new-counts.ensures i) (s.value i)) ∙ sums_neutral _ s.sound in
    rw c.from_residual-in_err-add_all-2.ensures (ap fits (λ i. sums (sym e i) (sym c.as_slice-2.ensures.value i)) ∙ c.in_err-add_all-2.ensures)

pub returns : goal.returns
returns c =
    let s = c.as_slice.ensures in
    let e : c.add_all.new.self ≡ c.args.self.now = c.in_ok-add_all.ensures ∙ (λ i. sums (c.new-counts.ensures i) (s.value i)) ∙ sums_neutral _ s.sound in
    c.in_ok-add_all-2.ensures ∙ (λ i. sums (e i) (c.as_slice-2.ensures.value i))
