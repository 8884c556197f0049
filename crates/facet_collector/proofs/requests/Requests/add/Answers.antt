use Rattle.std.proofs.Common.{◌≡◌, ℕ, false, List, [], length, sym, refl, ap, ◌∙◌, arith}
use Rattle.std.proofs.lemmas.Bool.{le-ltb}
use Rattle.std.proofs.lemmas.List.{length-take-le}
use Rattle.std.specs.List.{list_any}
use Rattle.facet.specs.Paths.{above}
use Rattle.facet_collector.proofs.Adding.{rises, absent_at, present, kept, requestable_with}
use Rattle.facet_collector.proofs.requests.Requests.add.Goals as goal

pub returns-in_default-clause-added : goal.returns-in_default-clause-added
returns-in_default-clause-added c =
    let rs : List (List ℕ) = c.args.self.now in
    let f : List ℕ = c.args.facet in
    let below : list_any (λ r. above r f) rs ≡ false = cc in
    let over : list_any (λ r. above f r) rs ≡ false = cc in
    let found = rw c.as_slice.ensures.value at c.in_default.ensures in
    let there = present f rs c.in_default.field-0 found.bound (found.ok []) in
    rw (below, over, there, kept f rs c.as_slice.ensures.requestable there)

pub returns-then-self-eq-MOST_REQUESTS-clause-added : goal.returns-then-self-eq-MOST_REQUESTS-clause-added
returns-then-self-eq-MOST_REQUESTS-clause-added c =
    let rs : List (List ℕ) = c.args.self.now in
    let f : List ℕ = c.args.facet in
    let below : list_any (λ r. above r f) rs ≡ false = cc in
    let over : list_any (λ r. above f r) rs ≡ false = cc in
    let p = rw c.as_slice.ensures.value at c.in-Err.ensures.position in
    let none = absent_at f rs c.in-Err.at (p (rises rs f c.as_slice.ensures.requestable)) in
    let full = sym (ap length c.self.view_is) ∙ length-take-le c.self.inside.len c.self.inside.facets (omega arith) in
    (rw (below, over, none, le-ltb (length rs) 16 (omega arith)), refl)

pub insert-requires-clause-place : goal.insert-requires-clause-place
insert-requires-clause-place c =
    let p = rw c.as_slice.ensures.value at c.in-Err.ensures.position in
    p (rises c.args.self.now c.args.facet c.as_slice.ensures.requestable)

pub insert-requires-clause-requestable : goal.insert-requires-clause-requestable
insert-requires-clause-requestable c = requestable_with c.args.facet c.args.self.now c.as_slice.ensures.requestable (cc) (cc)
