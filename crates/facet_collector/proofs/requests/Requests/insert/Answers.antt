use Rattle.std.proofs.Common.{◌≡◌, ◌+◌, rules, length, take, set, sym, ap, ◌∙◌, arith}
use Rattle.std.proofs.lemmas.List.{length-take-le}
use Rattle.std.specs.List.{insert as insert_at}
use Rattle.facet_collector.specs.Children.{requestable}
use Rattle.facet_collector.proofs.Adding.{moved, inserted}
use Rattle.facet_collector.proofs.requests.Requests.insert.Goals as goal

pub returns : goal.returns
returns c =
    let n : length c.args.self.now ≡ c.self.inside.len = sym (ap length c.self.view_is) ∙ length-take-le c.self.inside.len c.self.inside.facets (omega arith) in
    ap (λ xs. take (c.self.inside.len + 1) (set xs c.args.at c.args.facet)) c.copy_within.ensures.after
    ∙ moved c.self.inside.facets c.self.inside.len c.args.at c.args.facet (omega arith) (omega arith)
    ∙ ap (λ xs. insert_at xs c.args.at c.args.facet) c.self.view_is
    ∙ sym (inserted c.args.facet c.args.self.now c.args.at c.requires.within c.requires.place)

pub invariant_of-self : goal.invariant_of-self
invariant_of-self c =
    let n : length c.args.self.now ≡ c.self.inside.len = sym (ap length c.self.view_is) ∙ length-take-le c.self.inside.len c.self.inside.facets (omega arith) in
    record {
      full = search rules;
      within = omega arith;
      requestable = ap requestable (returns c) ∙ c.requires.requestable;
    }
