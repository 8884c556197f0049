-- The requested facet above a term, sought by a cursor, and where its child ends. Assumes nothing.
use Rattle.std.proofs.Common.{◌≡◌, ℕ, ◌+◌, ◌-◌, ◌<◌, ◌≤◌, Bool, true, false, cond, ltb, List, [], length, get_or, take, drop, Some, None, ⊎_elim, Ordering, Less, Equal, Greater, sym, refl, ap, ◌∙◌, subst, arith, length-drop, length-take}
use Rattle.facet.proofs.Paths.{way_front, length_piece}
use Rattle.facet.specs.Paths.{above, child_offset, depth, first_step, order}
use Rattle.std.proofs.lemmas.List.{get_or_default, get_or-take, get_or-drop, length-take-le, take_rest}
use Rattle.std.proofs.lemmas.Bool.{cases_lt, ltb-false}
use Rattle.std.proofs.lemmas.List.Quantifiers.{position-Some}
use Rattle.std.proofs.lemmas.List.Sums.{fails_before_first}
use Rattle.std.specs.List.{position, position_or_len}
use Rattle.std.specs.Ordering.{is_gt}
use Rattle.facet_collector.specs.Children.{requestable, request_of, towards, leads}
use Rattle.facet_collector.specs.Requests.{Sought, Ends}
use Rattle.facet_collector.proofs.Cursor.{cursor_none, request_found}

-- the last of the first `at` of them
pub last_of_front : (rs ss : List (List ℕ)) (at : ℕ) (x : List ℕ) → ss ≡ rs → at ≤ length rs → 1 ≤ length (take at ss) → x ≡ get_or (take at ss) (length (take at ss) - 1) x → (at - 1 < length rs) × (get_or rs (at - 1) [] ≡ x)
last_of_front rs ss at x e w z is =
    let n = ap length e in
    let m = length-take-le at ss (omega arith) in (
      omega arith,
      ap (λ (s : List (List ℕ)). get_or s (at - 1) []) (sym e)
          ∙ get_or_default ss (at - 1) [] x (omega arith)
          ∙ sym (get_or-take at ss (at - 1) x (omega arith))
          ∙ ap (λ k. get_or (take at ss) (k - 1) x) (sym m)
          ∙ sym is,
    )

pub gt_not : (o : Ordering) → false ≡ is_gt o → o ≡ Greater → ⊥
gt_not o h e = let z : ◌≡◌ {A = ℕ} 0 1 = cc in omega arith

pub gt_is : (o : Ordering) → true ≡ is_gt o → o ≡ Greater
gt_is Less e = let z : ◌≡◌ {A = ℕ} 0 1 = cc in absurd (omega arith)
gt_is Equal e = let z : ◌≡◌ {A = ℕ} 0 1 = cc in absurd (omega arith)
gt_is Greater e = refl

position-None : {X : Type 0} (p : X → Bool) (xs : List X) (d : X) → position p xs ≡ None → (k : ℕ) → k < length xs → p (get_or xs k d) ≡ false
position-None p xs d e k l = go (ltb (position_or_len p xs) (length xs)) refl e
  where
    go : (b : Bool) → ltb (position_or_len p xs) (length xs) ≡ b → cond b (Some (position_or_len p xs)) None ≡ None → p (get_or xs k d) ≡ false
    go true h e = absurd (let z : ◌≡◌ {A = ℕ} 0 1 = cc in omega arith)
    go false h e = let m = ltb-false _ _ h in fails_before_first p xs k d (omega arith)

-- the first of those from `from` on that stands behind t
module _ (rs ss : List (List ℕ)) (is : ss ≡ rs) (t : List ℕ) (from : ℕ) (w : from ≤ length rs) (passed : (k : ℕ) → k < from → order (get_or rs k []) t ≡ Greater → ⊥) where
  abbrev behind : List ℕ → Bool
  behind f = is_gt (order f t)

  -- none of the next n does
  further : (n : ℕ) → ((k : ℕ) → k < n → behind (get_or (drop from rs) k []) ≡ false) → (k : ℕ) → k < from + n → order (get_or rs k []) t ≡ Greater → ⊥
  further n h k l g =
      ⊎_elim (λ (b : k < from). passed k b g)
      (λ (b : from ≤ k).
      let m : from + (k - from) ≡ k = omega arith in
      gt_not (order (get_or rs k []) t) (sym (h (k - from) (omega arith)) ∙ ap behind (get_or-drop from rs (k - from) [] ∙ ap (λ j. get_or rs j []) m)) g)
      (cases_lt k from)

  sought : position behind (drop from rs) ≡ position behind (take (length ss - from) (drop from ss))
  sought = ap (position behind) (sym (take_rest rs from) ∙ ap (λ (xs : List (List ℕ)). take (length xs - from) (drop from xs)) (sym is))

  pub sought_some : (k : ℕ) → position behind (take (length ss - from) (drop from ss)) ≡ Some k → Sought rs t (from + k)
  sought_some k e =
      let (l, at, before) = position-Some behind (drop from rs) k [] (sought ∙ e) in
      let n = length-drop from rs in
      record { within = omega arith; passed = further k before; past = λ _. gt_is _ (sym at ∙ ap behind (get_or-drop from rs k [])) }

  pub sought_none : position behind (take (length ss - from) (drop from ss)) ≡ None → Sought rs t (length ss)
  sought_none e =
      let n = length-drop from rs in
      let m = ap length is in
      let h = position-None behind (drop from rs) [] (sought ∙ e) in
      record { within = omega arith; passed = λ k l. further (length rs - from) (λ j i. h j (omega arith)) k (omega arith); past = λ z. absurd (omega arith) }

module _ (rs : List (List ℕ)) (t : List ℕ) (at : ℕ) (ok : requestable rs ≡ true) where
  pub ends_none : Sought rs t at → (0 < at → above (get_or rs (at - 1) []) t ≡ false) → length (leads rs t) ≡ 0
  ends_none s none = ap (λ q. length (towards q t)) (cursor_none rs ok t at s.within s.passed s.past none)

-- r is requested and above t
module _ (rs : List (List ℕ)) (t r : List ℕ) (j : ℕ) (ok : requestable rs ≡ true) (l : j < length rs) (is : get_or rs j [] ≡ r) (h : above r t ≡ true) (s : ℕ) (o : s ≡ child_offset r) where
  pub starts_within : s ≤ length t
  starts_within = let w = (way_front r t h).0 in omega arith

  module _ (n : ℕ) (m : n ≡ length (first_step (take (length t - s) (drop s t)))) where
    len : n ≡ length (first_step (drop (child_offset r) t))
    len = m ∙ ap (λ (y : List ℕ). length (first_step y)) (take_rest t s ∙ ap (λ k. drop k t) o)

    pub ends_within : s + n ≤ length t
    ends_within =
        let a = length_piece 0 (drop (child_offset r) t) in let b = length-drop (child_offset r) t in let c = len in let d = starts_within in omega arith

    found : request_of rs t ≡ Some r
    found = request_found rs ok t j l (subst (λ (x : List ℕ). above x t ≡ true) (sym is) h) ∙ ap Some is

    led : take (s + n) t ≡ leads rs t
    led = (λ i. take (o i + len i) t) ∙ sym (ap (λ p. towards p t) found)

    length_led : s + n ≡ length (leads rs t)
    length_led = sym (length-take-le (s + n) t ends_within) ∙ ap length led

    pub ends_empty : s + n ≡ 0 → length (leads rs t) ≡ 0
    ends_empty z = sym length_led ∙ z

    pub ends_some : (d : ℕ) → d ≡ depth r → (s + n ≡ 0 → ⊥) → Ends rs t (s + n) d
    ends_some d q z = record { child = led; length_is = length_led; some = omega arith; request = (r, found, q) }

pub ends_short : {rs : List (List ℕ)} {t : List ℕ} {end deep : ℕ} → Ends rs t end deep → end ≤ length t
ends_short {t} {end} e = let a = e.length_is ∙ ap length (sym e.child) in let b = length-take end t in omega arith
