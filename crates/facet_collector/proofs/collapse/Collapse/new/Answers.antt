use Rattle.std.proofs.Common.{ℕ, ◌<◌, Option, None, refl, subst, arith, rules}
use Rattle.std.proofs.lemmas.List.{get_or-replicate, length-replicate}
use Rattle.segment.proofs.Ordinals.{terms_few}
use Rattle.segment.specs.Held.{terms_of}
use Rattle.facet_collector.specs.Children.{nothing}
use Rattle.facet_collector.specs.Requests.{Told}
use Rattle.facet_collector.proofs.Steps.{fill_none, fill_some, mapping_filled}
use Rattle.facet_collector.proofs.collapse.Collapse.new.Goals as goal
use Rattle.facet_collector.proofs.collapse.Collapse.new.Goals.{In-Some, in-Some-2, in_default-2}

few : (c : goal.In-Some) → c.loop-term.ordinal < 4096
few c = let h = terms_few c.args.column.now in let l = c.in-Some.ensures.0 in omega arith

pub overflow_cast-mapping : goal.overflow_cast-mapping
overflow_cast-mapping c = let h = few (goal.at.overflow_cast-mapping c).In-Some in search rules

pub offset_bounds-mapping-ordinal : goal.offset_bounds-mapping-ordinal
offset_bounds-mapping-ordinal c = let h = few (goal.at.offset_bounds-mapping-ordinal c).In-Some in search rules

pub bounds-mapping-ordinal : goal.bounds-mapping-ordinal
bounds-mapping-ordinal c = few (goal.at.bounds-mapping-ordinal c).In-Some

pub overflow_cast-slots : goal.overflow_cast-slots
overflow_cast-slots c = let h = few (goal.at.overflow_cast-slots c).In-Some in search rules

pub bounds-slots-ordinal : goal.bounds-slots-ordinal
bounds-slots-ordinal c = few (goal.at.bounds-slots-ordinal c).In-Some

pub overflow_add-ordinal : goal.overflow_add-ordinal
overflow_add-ordinal c = let h = few (goal.at.overflow_add-ordinal c).In-Some in search rules

pub loop-term-preserved : goal.loop-term-preserved
loop-term-preserved c =
    let (within, walked, filled) = c.loop-term.invariant in
    let (told, walked') = c.in_ok-entry.ensures in
    let l = c.in-Some.ensures.0 in
    let small = terms_few c.args.column.now in (
      omega arith,
      walked',
      elim c.match-branch-2.branch [
        | in-Some-2 w ↦
            let (maps, slot) = subst (Told c.args.requests.now (terms_of c.args.column.now) c.loop-term.ordinal) w.in-Some-2.is told in
            rw (w.mapping-is, w.slots-is) (fill_some _ _ _ l small _ _ filled _ _ maps slot)
        | in_default-2 w ↦
            let none = subst (Told c.args.requests.now (terms_of c.args.column.now) c.loop-term.ordinal) w.in_default-2.is told in
            rw (w.mapping-is, w.slots-is) (fill_none _ _ _ l small _ _ filled none)
      ],
    )

pub returns : goal.returns
returns c =
    let (within, walked, filled) = c.loop-term.invariant in
    mapping_filled _ _ _ _ within c.in_default.ensures walked.number walked.few filled

pub loop-term-init : goal.loop-term-init
loop-term-init c = (
  omega arith,
  record { cursor = omega arith; sought = λ k j h. absurd (omega arith); number = refl; few = omega arith; last = refl; begun = λ h. absurd (omega arith) },
  record {
    slotted = λ o h. absurd (omega arith);
    mapped = λ o h. absurd (omega arith);
    slots_left = λ o _ h. get_or-replicate 4096 o _ _ h;
    mapping_left = λ o _ h. get_or-replicate 4096 o _ _ h;
    slots_full = length-replicate {A = Option ℕ} 4096 None;
    mapping_full = length-replicate {A = ℕ × ℕ} 4096 nothing;
  },
)
