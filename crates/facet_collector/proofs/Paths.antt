-- Which child of a requested facet a term leads to. Assumes nothing.
use Rattle.std.proofs.Common.{◌≡◌, ℕ, suc, ◌<◌, Bool, true, false, cond, not, ◌||◌, eqb, ◌⊎◌, List, [], ◌∷◌, length, Some, None, Option, Ordering, Less, Equal, Greater, sym, refl, ap, ◌∙◌, subst, inl, inr, ⊎_elim, arith}
use Rattle.collector.specs.Facets.{requested_child}
use Rattle.facet.proofs.Paths.{prefix, way, way_front, on_the_way, no_way_empty}
use Rattle.facet.specs.Laws.{OnTheWay}
use Rattle.facet.specs.Paths.{above, at_or_below, child, depth, order}
use Rattle.std.proofs.lemmas.Slice.Eq.{bytes_eq-Decides}
use Rattle.std.proofs.lemmas.Bool.{and_parts, and_from, or_cases, or_left, or_right, not-true, both_ways, true≢false}
use Rattle.std.specs.Cmp.Lexicographic.{nat_list_cmp_total}
use Rattle.std.specs.Ordering.{ordering_reverse}
use Rattle.std.specs.List.{list_all}
use Rattle.std.specs.Str.{bytes_eq}
use Rattle.facet_collector.specs.Ascents.{is_strictly_sorted_by}
use Rattle.facet_collector.specs.Children.{apart, requestable, request_of, child_toward, towards, leads}

-- ---- above and at or below

pub above_chain : (p q f : List ℕ) → above p q ≡ true → above q f ≡ true → above p f ≡ true
above_chain p q f = (prefix p q (above p q) refl).strict.transitive p q f

pub at_or_below_cases : (f c : List ℕ) → at_or_below f c ≡ true → (f ≡ c) ⊎ (above c f ≡ true)
at_or_below_cases f c h =
    ⊎_elim (λ (e : bytes_eq f c ≡ true). inl ((bytes_eq-Decides f c).0 e)) (λ (e : above c f ≡ true). inr e) (or_cases (bytes_eq f c) (above c f) h)

pub below_through : (p f c : List ℕ) → above p c ≡ true → at_or_below f c ≡ true → above p f ≡ true
below_through p f c h l =
    ⊎_elim (λ (e : f ≡ c). subst (λ (x : List ℕ). above p x ≡ true) (sym e) h) (λ (e : above c f ≡ true). above_chain p c f h e) (at_or_below_cases f c l)

child_above : (r c : List ℕ) → child r c ≡ true → above r c ≡ true
child_above r c h = (and_parts (above r c) (eqb (depth c) (suc (depth r))) h).0

-- an order is one of the three
pub less_greater : {B : Type 0} {o : Ordering} → o ≡ Less → o ≡ Greater → B
less_greater p q = let z : ◌≡◌ {A = ℕ} 0 1 = cc in absurd (omega arith)

pub equal_greater : {B : Type 0} {o : Ordering} → o ≡ Equal → o ≡ Greater → B
equal_greater p q = let z : ◌≡◌ {A = ℕ} 0 1 = cc in absurd (omega arith)

pub flipped : (s t : List ℕ) → order s t ≡ Greater → order t s ≡ Less
flipped s t h = nat_list_cmp_total.antisymm t s ∙ ap ordering_reverse h

-- x not behind y, and both above f: y is below x, or they are the same
module _ (f x y : List ℕ) (u : above x f ≡ true) (v : above y f ≡ true) (n : apart x y ≡ true) where
  same_above : (order x y ≡ Greater → ⊥) → x ≡ y
  same_above l =
      let t = (prefix x f (above x f) refl).together u y l (less_greater ((prefix y f (above y f) refl).before v)) in
      ⊎_elim (λ (k : y ≡ x). sym k) (λ (k : above x y ≡ true). absurd (both_ways (above x y) (not-true _ (and_parts _ (not (above y x)) n).0) k)) (at_or_below_cases y x t)

pub apart_sym : (x y : List ℕ) → apart x y ≡ true → apart y x ≡ true
apart_sym x y n = let (a, b) = and_parts (not (above x y)) (not (above y x)) n in and_from _ _ b a

-- two that are apart are not both above a third
pub one_above : (x y f : List ℕ) → above x f ≡ true → above y f ≡ true → apart x y ≡ true → x ≡ y
one_above x y f u v n = go (order x y) refl
  where
    go : (o : Ordering) → order x y ≡ o → x ≡ y
    go Less e = same_above f x y u v n (less_greater e)
    go Equal e = same_above f x y u v n (equal_greater e)
    go Greater e = sym (same_above f y x v u (apart_sym x y n) (less_greater (flipped x y e)))

-- ---- the child of one facet

toward_is_way : (r t : List ℕ) → above r t ≡ true → child_toward r t ≡ way r t
toward_is_way r t h = (way_front r t h).1

-- what it leads to is a child that the term is at or below
pub toward_way : (r t : List ℕ) → above r t ≡ true → 0 < length (child_toward r t) → OnTheWay r t (child_toward r t)
toward_way r t h z =
    let e = toward_is_way r t h in
    subst (OnTheWay r t) (sym e) (on_the_way r t h (let l = ap length e in omega arith))

pub toward_is : (r t c : List ℕ) → child r c ≡ true → at_or_below t c ≡ true → child_toward r t ≡ c
toward_is r t c k l =
    let h = below_through r t c (child_above r c k) l in
    let e = toward_is_way r t h in
    go (way r t) refl e
  where
    h' : above r t ≡ true
    h' = below_through r t c (child_above r c k) l

    go : (w : List ℕ) → way r t ≡ w → child_toward r t ≡ w → child_toward r t ≡ c
    go [] p e = absurd (no_way_empty r t p c k l)
    go (x ∷ w) p e = e ∙ sym p ∙ sym ((on_the_way r t h' (let z = ap length p in omega arith)).only c k l)

-- ---- the child of a requested facet

pub request_some : (rs : List (List ℕ)) (t r : List ℕ) → request_of rs t ≡ Some r → above r t ≡ true
request_some [] t r e = let z : ◌≡◌ {A = ℕ} 0 1 = cc in absurd (omega arith)
request_some (q ∷ rs) t r e = go (above q t) refl e (request_some rs t r)
  where
    go : (b : Bool) → above q t ≡ b → cond b (Some q) (request_of rs t) ≡ Some r → (request_of rs t ≡ Some r → above r t ≡ true) → above r t ≡ true
    go true h k ih = let s : q ≡ r = cc in subst (λ (x : List ℕ). above x t ≡ true) s h
    go false h k ih = ih k

pub request_child : (rs : List (List ℕ)) (t r c : List ℕ) → request_of rs t ≡ Some r → child r c ≡ true → requested_child rs c ≡ true
request_child [] t r c e k = let z : ◌≡◌ {A = ℕ} 0 1 = cc in absurd (omega arith)
request_child (q ∷ rs) t r c e k = go (above q t) e (λ h. request_child rs t r c h k)
  where
    go : (b : Bool) → cond b (Some q) (request_of rs t) ≡ Some r → (request_of rs t ≡ Some r → requested_child rs c ≡ true) → (child q c || requested_child rs c) ≡ true
    go true h ih = let s : r ≡ q = cc in or_left _ _ (subst (λ (x : List ℕ). child x c ≡ true) s k)
    go false h ih = or_right _ _ (ih h)

-- what a term leads to is a requested child that it is at or below
pub leads_sound : (rs : List (List ℕ)) (t : List ℕ) → 0 < length (leads rs t) → (requested_child rs (leads rs t) ≡ true) × (at_or_below t (leads rs t) ≡ true)
leads_sound rs t z = go (request_of rs t) refl z
  where
    go : (o : Option (List ℕ)) → request_of rs t ≡ o → 0 < length (towards o t) → (requested_child rs (towards o t) ≡ true) × (at_or_below t (towards o t) ≡ true)
    go None e z = absurd (omega arith)
    go (Some r) e z =
        let w = toward_way r t (request_some rs t r e) z in (request_child rs t r _ e w.is_child, w.leads)

-- where requested facets are apart, a term leads to each requested child that it is at or below
module _ (t c : List ℕ) (l : at_or_below t c ≡ true) where
  -- any of them that is above the term has that child
  owner : (q : List ℕ) (rs : List (List ℕ)) → list_all (apart q) rs ≡ true → requested_child rs c ≡ true → above q t ≡ true → child q c ≡ true
  owner q [] n k h = absurd (true≢false (sym k))
  owner q (r ∷ rs) n k h =
      let (a, b) = and_parts (apart q r) (list_all (apart q) rs) n in
      ⊎_elim (λ (m : child r c ≡ true). subst (λ (x : List ℕ). child x c ≡ true) (sym (one_above q r t h (below_through r t c (child_above r c m) l) a)) m)
      (λ (m : requested_child rs c ≡ true). owner q rs b m h) (or_cases (child r c) (requested_child rs c) k)

  leads_by : (all rs : List (List ℕ)) → requested_child all c ≡ true → list_all (λ r. list_all (apart r) all) rs ≡ true → requested_child rs c ≡ true → leads rs t ≡ c
  leads_by all [] k n m = absurd (true≢false (sym m))
  leads_by all (r ∷ rs) k n m =
      let (a, b) = and_parts (list_all (apart r) all) _ n in go (above r t) refl a (leads_by all rs k b)
    where
      go : (b : Bool) → above r t ≡ b → list_all (apart r) all ≡ true → (requested_child rs c ≡ true → leads rs t ≡ c) → towards (cond b (Some r) (request_of rs t)) t ≡ c
      go true h a ih = toward_is r t c (owner r all a k h) l
      go false h a ih =
          ih (⊎_elim (λ (m : child r c ≡ true). absurd (both_ways (above r t) h (below_through r t c (child_above r c m) l))) (λ m. m) (or_cases (child r c) (requested_child rs c) m))

pub leads_is : (rs : List (List ℕ)) (t c : List ℕ) → requestable rs ≡ true → requested_child rs c ≡ true → at_or_below t c ≡ true → leads rs t ≡ c
leads_is rs t c n k l = leads_by t c l rs rs k (and_parts (is_strictly_sorted_by order rs) _ n).1 k
