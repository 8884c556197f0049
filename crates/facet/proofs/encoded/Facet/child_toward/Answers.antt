use Rattle.std.proofs.Common.{◌≡◌, ℕ, ◌+◌, ◌-◌, ◌<◌, ◌≤◌, true, List, length, take, drop, sym, ap, ◌∙◌, subst, arith, length-drop, rules}
use Rattle.std.proofs.lemmas.List.{take_rest, length-take-le, nil_from_length}
use Rattle.utf8.specs.Octets.{utf8}
use Rattle.facet.specs.Laws.{OnTheWay, NoWay}
use Rattle.facet.specs.Paths.{first_step, above, child_offset}
use Rattle.facet.proofs.Octets.{utf8_way}
use Rattle.facet.proofs.Paths.{way, way_front, length_piece, no_way_empty, on_the_way}
use Rattle.facet.proofs.encoded.Facet.child_toward.Goals as goal

-- p above f, with the slice xs of f, the child's offset s in it and the length n of its step
module _ (p f xs : List ℕ) (s n : ℕ) (h : above p f ≡ true) (e : xs ≡ f) (o : s ≡ child_offset p) where
  starts : s ≤ length xs
  starts = let l = (way_front p f h).0 in let m = ap length e in omega arith

  module _ (m : n ≡ length (first_step (take (length xs - s) (drop s xs)))) where
    ends : s + n ≤ length xs
    ends =
        let l = length_piece 0 (drop s xs) in
        let k = m ∙ ap (λ (y : List ℕ). length (first_step y)) (take_rest xs s) in
        let d = length-drop s xs in
        let q = starts in
        omega arith

    front_is_way : take (s + n) xs ≡ way p f
    front_is_way =
        (λ i. take (s + (m ∙ ap (λ (y : List ℕ). length (first_step y)) (take_rest xs s)) i) xs)
        ∙ (λ i. take (o i + length (first_step (drop (o i) (e i)))) (e i))
        ∙ (way_front p f h).1

    length_way : length (way p f) ≡ s + n
    length_way = ap length (sym front_is_way) ∙ length-take-le (s + n) xs ends

    leads : 0 < s + n → OnTheWay p f (take (s + n) xs)
    leads z = subst (OnTheWay p f) (sym front_is_way) (on_the_way p f h (let l = length_way in omega arith))

    nowhere : s + n ≡ 0 → NoWay p f
    nowhere z = no_way_empty p f (nil_from_length (way p f) (length_way ∙ z))

    text : 0 < s + n → utf8 f ≡ true → utf8 (take (s + n) xs) ≡ true
    text z u = ap utf8 front_is_way ∙ utf8_way p f h (let l = length_way in omega arith) u

pub slice_bounds-step_end-count : goal.slice_bounds-step_end-count
slice_bounds-step_end-count c = starts _ _ _ _ 0 (sym c.if-not-is_prefix_of.ensures.value) c.encoded-below.ensures.value c.child_offset-start.ensures.value

pub slice_bounds-step_end-start : goal.slice_bounds-step_end-start
slice_bounds-step_end-start c =
    let h = starts _ _ _ _ 0 (sym c.if-not-is_prefix_of.ensures.value) c.encoded-below.ensures.value c.child_offset-start.ensures.value in
    search rules

pub overflow_add-end : goal.overflow_add-end
overflow_add-end c =
    let h = ends _ _ _ _ _ (sym c.if-not-is_prefix_of.ensures.value) c.encoded-below.ensures.value c.child_offset-start.ensures.value c.step_end.ensures in
    let b = c.encoded-below.ensures.bound in
    search rules

pub returns-then-end-eq0 : goal.returns-then-end-eq0
returns-then-end-eq0 c = nowhere _ _ _ _ _ (sym c.if-not-is_prefix_of.ensures.value) c.encoded-below.ensures.value c.child_offset-start.ensures.value c.step_end.ensures c.if-end-eq0.true

pub slice_bounds-hold-end : goal.slice_bounds-hold-end
slice_bounds-hold-end c =
    let h = ends _ _ _ _ _ (sym c.if-not-is_prefix_of.ensures.value) c.encoded-below.ensures.value c.child_offset-start.ensures.value c.step_end.ensures in
    search rules

pub hold-requires-clause-text : goal.hold-requires-clause-text
hold-requires-clause-text c =
    text _ _ _ _ _ (sym c.if-not-is_prefix_of.ensures.value) c.encoded-below.ensures.value c.child_offset-start.ensures.value c.step_end.ensures (omega arith)
    (ap utf8 (sym c.encoded-below.ensures.value) ∙ c.encoded-below.ensures.text)

pub returns : goal.returns
returns c =
    subst (OnTheWay _ _) (sym c.hold.ensures)
    (leads _ _ _ _ _ (sym c.if-not-is_prefix_of.ensures.value) c.encoded-below.ensures.value c.child_offset-start.ensures.value c.step_end.ensures (omega arith))
