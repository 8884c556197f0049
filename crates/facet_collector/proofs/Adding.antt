-- A facet's place among requested facets, and what they are with it there. Assumes nothing.
use Rattle.std.proofs.Common.{◌≡◌, ℕ, zero, suc, ◌+◌, ◌-◌, ◌<◌, ◌≤◌, Bool, true, false, List, [], ◌∷◌, length, get_or, take, drop, set, ◌++◌, append_assoc, Less, Equal, Greater, sym, refl, ap, ◌∙◌, subst, ⊎_elim, arith}
use Rattle.facet.proofs.Paths.{prefix}
use Rattle.facet.specs.Paths.{above, order}
use Rattle.std.proofs.lemmas.Bool.{cases_lt, and_parts, and_from, or_parts, or_cases, or_left, or_right, true≢false}
use Rattle.std.proofs.lemmas.Grind.{common_steps}
use Rattle.std.proofs.lemmas.List.{drop-take, take-take, take_more_set, set-append_left}
use Rattle.std.proofs.Math.Seq.{take_at, take-set-lt}
use Rattle.std.proofs.lemmas.List.Sorted.{searchable_from_sorted}
use Rattle.std.proofs.lemmas.Map.Keys.{Less-from_sorted}
use Rattle.std.proofs.lemmas.Map.Lookups.{exact_bytes}
use Rattle.std.proofs.lemmas.Slice.Eq.{bytes_eq-Decides}
use Rattle.std.specs.Cmp.Lexicographic.{nat_list_cmp_total}
use Rattle.std.specs.List.{copy_within, insert as insert_at, list_all, list_any}
use Rattle.std.specs.List.Sorted.{IsNonDecreasingBy, IsPartitionPoint, IsStrictlySortedBy}
use Rattle.std.specs.Ordering.{is_lt, ordering_index, ordering_reverse}
use Rattle.std.specs.Str.{bytes_eq}
use Rattle.facet_collector.specs.Ascents.{is_strictly_sorted_by}
use Rattle.facet_collector.specs.Children.{apart, requestable, insert, member}
use Rattle.facet_collector.proofs.Ascents.{sorted_from_test, test_from_sorted}
use Rattle.facet_collector.proofs.Paths.{apart_sym}
use Rattle.facet_collector.proofs.Sets.{Behind, Climbing, insert_climbs}
use Rattle.facet_collector.proofs.Sums.{by_cases, is_false, order_self, order_turn}

-- ---- in the array

parted : {X : Type 0} (xs : List X) (n at : ℕ) → at ≤ n → drop at (take n xs) ≡ take (n - at) (drop at xs)
parted {X} xs n at l = let e : n ≡ at + (n - at) = omega arith in ap (λ k. drop at (take k xs)) e ∙ drop-take at (n - at) xs

-- what stands from a place on is moved by one, and y put there
pub moved : {X : Type 0} (xs : List X) (n at : ℕ) (y : X) → at ≤ n → n < length xs → take (n + 1) (set (copy_within xs at n (at + 1)) at y) ≡ insert_at (take n xs) at y
moved {X} xs n at y l h =
    let front : List X = take (at + 1) xs in
    let back : List X = take (n - at) (drop at xs) in
    let rest : List X = drop (at + 1 + (n - at)) xs in
    let put : set front at y ≡ take at xs ++ y ∷ [] = sym (take-set-lt (at + 1) xs at y (omega arith)) ∙ take_more_set xs at y (omega arith) in
    let all : length (set front at y ++ back) ≡ n + 1 = grind (arith, common_steps) in
    ap (take (n + 1)) (set-append_left (front ++ back) rest at y (grind (arith, common_steps)) ∙ ap (λ (q : List X). q ++ rest) (set-append_left front back at y (grind (arith, common_steps))))
    ∙ take_at (set front at y ++ back) rest (n + 1) all
    ∙ ap (λ (q : List X). q ++ back) put
    ∙ append_assoc (take at xs) (y ∷ []) back
    ∙ (λ i. sym (take-take at n xs l) i ++ y ∷ sym (parted xs n at l) i)

-- ---- the search

turn : (f d : List ℕ) → order d f ≡ Less → order f d ≡ Greater
turn f d h = nat_list_cmp_total.antisymm f d ∙ ap ordering_reverse h

ascends : (rs : List (List ℕ)) → requestable rs ≡ true → IsStrictlySortedBy order rs
ascends rs ok = sorted_from_test order rs (and_parts (is_strictly_sorted_by order rs) _ ok).0

pub rises : (rs : List (List ℕ)) (f : List ℕ) → requestable rs ≡ true → IsNonDecreasingBy (λ y. ordering_index (order y f)) rs
rises rs f ok = searchable_from_sorted nat_list_cmp_total (λ y. y) rs f (λ k d _ l. ap is_lt (turn (get_or rs (k + 1) d) (get_or rs k d) (Less-from_sorted order rs k (k + 1) d (ascends rs ok) (omega arith) l)))

pub inserted : (f : List ℕ) (rs : List (List ℕ)) (at : ℕ) → at ≤ length rs → IsPartitionPoint (λ r. order r f ≡ Less) (λ r. order r f ≡ Greater) rs at → insert f rs ≡ insert_at rs at f
inserted f [] zero l p = refl
inserted f [] (suc at) l p = absurd (omega arith)
inserted f (d ∷ ds) zero l p = rw (order_turn d f (p.1 0 [] (omega arith) (omega arith)))
inserted f (d ∷ ds) (suc at) l p =
    rw (turn f d (p.0 0 [] (omega arith) (omega arith))) (ap (λ (l : List (List ℕ)). d ∷ l) (inserted f ds at (omega arith) (λ k x a b. p.0 (suc k) x (omega arith) (omega arith), λ k x a b. p.1 (suc k) x (omega arith) (omega arith))))

-- what is not found is not there
absent : (f : List ℕ) (rs : List (List ℕ)) → ((k : ℕ) → k < length rs → order (get_or rs k []) f ≡ Equal → ⊥) → member rs f ≡ false
absent f [] n = refl
absent f (d ∷ ds) n =
    rw (is_false (bytes_eq d f) (λ b. n 0 (omega arith) (ap (λ (x : List ℕ). order x f) ((bytes_eq-Decides d f).0 b) ∙ order_self f)), absent f ds (λ k l. n (suc k) (omega arith)))

pub absent_at : (f : List ℕ) (rs : List (List ℕ)) (at : ℕ) → IsPartitionPoint (λ r. order r f ≡ Less) (λ r. order r f ≡ Greater) rs at → member rs f ≡ false
absent_at f rs at p =
    absent f rs (λ k l e.
    ⊎_elim (λ (h : k < at). let q = p.0 k [] (omega arith) h in cc) (λ (h : at ≤ k). let q = p.1 k [] h l in cc) (cases_lt k at))

-- and what is found is
pub present : (f : List ℕ) (rs : List (List ℕ)) (k : ℕ) → k < length rs → order (get_or rs k []) f ≡ Equal → member rs f ≡ true
present f [] k l e = absurd (omega arith)
present f (d ∷ ds) zero l e = or_left _ _ ((bytes_eq-Decides d f).1 (exact_bytes d f e))
present f (d ∷ ds) (suc k) l e = or_right _ _ (present f ds k (omega arith) e)

-- ---- what is there

climbs : (rs : List (List ℕ)) → IsStrictlySortedBy order rs → Climbing rs
unfolding IsStrictlySortedBy
climbs [] s = tt
climbs (d ∷ ds) s = (s.0, climbs ds s.1)

sorted : (rs : List (List ℕ)) → Climbing rs → IsStrictlySortedBy order rs
unfolding IsStrictlySortedBy
sorted [] r = tt
sorted (d ∷ ds) r = (r.0, sorted ds r.1)

behind_member : (b f : List ℕ) (ds : List (List ℕ)) → Behind b ds → member ds f ≡ true → order b f ≡ Less
behind_member b f [] a h = absurd (true≢false (sym h))
behind_member b f (d ∷ ds) a h =
    ⊎_elim (λ (e : bytes_eq d f ≡ true). subst (λ (x : List ℕ). order b x ≡ Less) ((bytes_eq-Decides d f).0 e) a.0)
    (λ (e : member ds f ≡ true). behind_member b f ds a.1 e) (or_cases (bytes_eq d f) (member ds f) h)

kept_climbing : (f : List ℕ) (rs : List (List ℕ)) → Climbing rs → member rs f ≡ true → insert f rs ≡ rs
kept_climbing f [] r h = absurd (true≢false (sym h))
kept_climbing f (d ∷ ds) r h =
    ⊎_elim (λ (e : bytes_eq d f ≡ true). rw (ap (order f) ((bytes_eq-Decides d f).0 e) ∙ order_self f))
    (λ (e : member ds f ≡ true). rw (turn f d (behind_member d f ds r.0 e)) (ap (λ (l : List (List ℕ)). d ∷ l) (kept_climbing f ds r.1 e))) (or_cases (bytes_eq d f) (member ds f) h)

pub kept : (f : List ℕ) (rs : List (List ℕ)) → requestable rs ≡ true → member rs f ≡ true → insert f rs ≡ rs
kept f rs ok h = kept_climbing f rs (climbs rs (ascends rs ok)) h

-- ---- what stays requestable

all_insert : (p : List ℕ → Bool) (f : List ℕ) (rs : List (List ℕ)) → p f ≡ true → list_all p rs ≡ true → list_all p (insert f rs) ≡ true
all_insert p f [] a b = and_from _ _ a refl
all_insert p f (d ∷ ds) a b =
    by_cases (λ l. list_all p l ≡ true) (order f d) _ _ _ (λ _. and_from _ _ a b) (λ _. b)
    (λ _. let (x, y) = and_parts (p d) (list_all p ds) b in and_from _ _ x (all_insert p f ds a y))

apart_self : (f : List ℕ) → apart f f ≡ true
apart_self f = rw ((prefix f f (above f f) refl).strict.irreflexive f)

apart_all : (f : List ℕ) (rs : List (List ℕ)) → list_any (λ r. above r f) rs ≡ false → list_any (λ r. above f r) rs ≡ false → list_all (apart f) rs ≡ true
apart_all f [] a b = refl
apart_all f (r ∷ rs) a b =
    let p = or_parts (above r f) (list_any (λ r. above r f) rs) a in
    let q = or_parts (above f r) (list_any (λ r. above f r) rs) b in
    rw (p.0, q.0) (apart_all f rs p.1 q.1)

module _ (f : List ℕ) (rs : List (List ℕ)) where
  each : (qs : List (List ℕ)) → list_all (λ r. list_all (apart r) rs) qs ≡ true → list_all (apart f) qs ≡ true → list_all (λ r. list_all (apart r) (insert f rs)) qs ≡ true
  each [] a b = refl
  each (q ∷ qs) a b =
      let x = and_parts (list_all (apart q) rs) _ a in
      let y = and_parts (apart f q) _ b in
      and_from _ _ (all_insert (apart q) f rs (apart_sym f q y.0) x.0) (each qs x.1 y.1)

  pub requestable_with : requestable rs ≡ true → list_any (λ r. above r f) rs ≡ false → list_any (λ r. above f r) rs ≡ false → requestable (insert f rs) ≡ true
  requestable_with ok a b =
      let t = (and_parts (is_strictly_sorted_by order rs) _ ok).1 in
      let n = apart_all f rs a b in
      and_from _ _ (test_from_sorted order (insert f rs) (sorted _ (insert_climbs f rs (climbs rs (ascends rs ok)))))
      (all_insert (λ r. list_all (apart r) (insert f rs)) f rs (all_insert (apart f) f rs (apart_self f) n) (each rs t n))
