-- The requested facet above a term is the last that does not stand behind it. Assumes nothing.
use Rattle.std.proofs.Common.{◌≡◌, ℕ, zero, suc, ◌+◌, ◌-◌, ◌<◌, ◌≤◌, Bool, true, false, cond, List, [], ◌∷◌, length, get_or, Some, None, Less, Greater, sym, refl, ap, subst, ⊎_elim, arith}
use Rattle.facet.proofs.Paths.{prefix}
use Rattle.facet.specs.Paths.{above, order}
use Rattle.std.proofs.lemmas.Map.Keys.{Less-from_sorted}
use Rattle.std.proofs.lemmas.Bool.{and_parts, both_ways, cases_lt, cases_eq, not-true}
use Rattle.std.specs.List.{list_all}
use Rattle.facet_collector.specs.Ascents.{is_strictly_sorted_by}
use Rattle.facet_collector.specs.Children.{apart, requestable, request_of}
use Rattle.facet_collector.proofs.Ascents.{sorted_from_test}
use Rattle.facet_collector.proofs.Lasts.{never_less}
use Rattle.facet_collector.proofs.Paths.{one_above, at_or_below_cases, less_greater}
use Rattle.facet_collector.proofs.Sets.{order_trans}
use Rattle.facet_collector.proofs.Sums.{is_false}

pub pass_at : {X : Type 0} (p : X → Bool) (xs : List X) (i : ℕ) (d : X) → list_all p xs ≡ true → i < length xs → p (get_or xs i d) ≡ true
pass_at p [] i d h l = absurd (omega arith)
pass_at p (x ∷ xs) zero d h l = (and_parts (p x) (list_all p xs) h).0
pass_at p (x ∷ xs) (suc i) d h l = pass_at p xs i d (and_parts (p x) (list_all p xs) h).1 (omega arith)

module _ (rs : List (List ℕ)) (ok : requestable rs ≡ true) where
  pub requests_ascend : (i j : ℕ) → i < j → j < length rs → order (get_or rs i []) (get_or rs j []) ≡ Less
  requests_ascend i j l h =
      Less-from_sorted order rs i j [] (sorted_from_test order rs (and_parts (is_strictly_sorted_by order rs) _ ok).0) l h

  pub requests_apart : (i j : ℕ) → i < length rs → j < length rs → apart (get_or rs i []) (get_or rs j []) ≡ true
  requests_apart i j l h =
      pass_at (apart (get_or rs i [])) rs j [] (pass_at (λ r. list_all (apart r) rs) rs i [] (and_parts (is_strictly_sorted_by order rs) _ ok).1 l) h

  -- the one that is above a term is the one meant
  pub request_found : (t : List ℕ) (j : ℕ) → j < length rs → above (get_or rs j []) t ≡ true → request_of rs t ≡ Some (get_or rs j [])
  request_found t j l h = go rs j (λ i k. requests_apart i j k l) l refl
    where
      go : (qs : List (List ℕ)) (k : ℕ) → ((i : ℕ) → i < length qs → apart (get_or qs i []) (get_or rs j []) ≡ true) → k < length qs → get_or qs k [] ≡ get_or rs j [] → request_of qs t ≡ Some (get_or rs j [])
      go [] k n m e = absurd (omega arith)
      go (q ∷ qs) k n m e = pick (above q t) refl k m e (λ k. go qs k (λ i u. n (suc i) (omega arith)))
        where
          pick : (b : Bool) → above q t ≡ b → (k : ℕ) → k < length (q ∷ qs) → get_or (q ∷ qs) k [] ≡ get_or rs j [] → ((k : ℕ) → k < length qs → get_or qs k [] ≡ get_or rs j [] → request_of qs t ≡ Some (get_or rs j [])) → cond b (Some q) (request_of qs t) ≡ Some (get_or rs j [])
          pick true u k m e ih = ap Some (one_above q (get_or rs j []) t u h (n 0 (omega arith)))
          pick false u zero m e ih = absurd (both_ways _ u (subst (λ (x : List ℕ). above x t ≡ true) (sym e) h))
          pick false u (suc k) m e ih = ih k (omega arith) e

pub request_none : (rs : List (List ℕ)) (t : List ℕ) → ((j : ℕ) → j < length rs → above (get_or rs j []) t ≡ false) → request_of rs t ≡ None
request_none [] t n = refl
request_none (r ∷ rs) t n = rw (n 0 (omega arith)) (request_none rs t (λ j l. n (suc j) (omega arith)))

-- `at` of them do not stand behind the term, the others do, and the last of the first is not above it
module _ (rs : List (List ℕ)) (ok : requestable rs ≡ true) (t : List ℕ) (at : ℕ) (within : at ≤ length rs) (sought : (k : ℕ) → k < at → order (get_or rs k []) t ≡ Greater → ⊥) (past : at < length rs → order (get_or rs at []) t ≡ Greater) (no : 0 < at → above (get_or rs (at - 1) []) t ≡ false) where
  -- one before the last would have the last below it
  not_earlier : (j : ℕ) → j + 1 < at → above (get_or rs j []) t ≡ true → ⊥
  not_earlier j l h =
      let k = at - 1 in
      let u = requests_ascend rs ok j k (omega arith) (omega arith) in
      let a = (prefix (get_or rs j []) t (above (get_or rs j []) t) refl).together h (get_or rs k []) (less_greater u) (sought k (omega arith)) in
      ⊎_elim (λ (e : get_or rs k [] ≡ get_or rs j []). never_less (get_or rs j []) (subst (λ (x : List ℕ). order (get_or rs j []) x ≡ Less) e u))
      (λ (e : above (get_or rs j []) (get_or rs k []) ≡ true). both_ways _ (not-true _ (and_parts _ _ (requests_apart rs ok j k (omega arith) (omega arith))).0) e)
      (at_or_below_cases (get_or rs k []) (get_or rs j []) a)

  -- nor is one above that stands behind
  not_later : (j : ℕ) → at ≤ j → j < length rs → above (get_or rs j []) t ≡ true → ⊥
  not_later j l h b =
      let u = (prefix (get_or rs j []) t (above (get_or rs j []) t) refl).before b in
      let g = past (omega arith) in
      ⊎_elim (λ (e : at ≡ j). less_greater u (subst (λ (k : ℕ). order (get_or rs k []) t ≡ Greater) e g))
      (λ (n : at ≡ j → ⊥). less_greater (order_trans (get_or rs at []) (get_or rs j []) t (requests_ascend rs ok at j (omega arith) h) u) g) (cases_eq at j)

  pub cursor_none : request_of rs t ≡ None
  cursor_none = request_none rs t (λ j l. is_false _ (λ h.
      ⊎_elim (λ (k : j < at). ⊎_elim (λ (e : j + 1 ≡ at). let m : at - 1 ≡ j = omega arith in both_ways _ (subst (λ (i : ℕ). above (get_or rs i []) t ≡ false) m (no (omega arith))) h) (λ (n : j + 1 ≡ at → ⊥). not_earlier j (omega arith) h) (cases_eq (j + 1) at))
      (λ (k : at ≤ j). not_later j k l h) (cases_lt j at)))
