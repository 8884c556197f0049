-- The children of a branch and their counts. Assumes nothing.
use Rattle.std.proofs.Common.{◌≡◌, ℕ, ◌+◌, ◌<◌, ◌≤◌, Bool, true, false, cond, ◌||◌, ltb, ◌⊎◌, List, [], ◌∷◌, ◌++◌, map, Ordering, Less, Equal, Greater, sym, refl, ap, ◌∙◌, subst, inl, inr, ⊎_elim, arith}
use Rattle.facet.specs.Laws.{OnTheWay, NoWay}
use Rattle.facet.specs.Paths.{at_or_below, child, order}
use Rattle.std.proofs.ByRecursion.{All-weaker, All-map}
use Rattle.std.proofs.lemmas.Map.Lookups.{exact_bytes}
use Rattle.std.proofs.lemmas.Slice.Eq.{bytes_eq-Decides}
use Rattle.std.proofs.lemmas.List.Folds.{list_any-append}
use Rattle.std.proofs.lemmas.List.Sums.{sum_by-cons}
use Rattle.std.proofs.lemmas.Bool.{or_cases, or_left, or_right, both_ways, cases_lt, lt-ltb, ltb-true}
use Rattle.std.proofs.lemmas.Bool.Decides.{nat_tests}
use Rattle.std.specs.List.{flat_map, AllByRecursion}
use Rattle.std.specs.Cmp.{nat_cmp_total}
use Rattle.std.specs.Cmp.Lexicographic.{lists_total}
use Rattle.std.specs.BTreeSet.{insert_key}
use Rattle.std.specs.Ordering.{match_ordering, ordering_reverse}
use Rattle.std.specs.Str.{bytes_eq}
use Rattle.recipes.specs.Counting.{holds, recipes_at, count_of, Ascending, Counted, member, Children}

-- ---- what recipes hold

pub holds_append : (fs gs : List (List ℕ)) (c : List ℕ) → holds (fs ++ gs) c ≡ (holds fs c || holds gs c)
holds_append fs gs c = list_any-append (λ f. at_or_below f c) fs gs

-- some recipe holds what all of them together hold
pub some_hold : {X : Type 0} (f : X → List (List ℕ)) (xs : List X) (c : List ℕ) → holds (flat_map f xs) c ≡ ltb 0 (recipes_at (map f xs) c)
some_hold f [] c = refl
some_hold f (x ∷ xs) c =
    holds_append (f x) (flat_map f xs) c ∙ ap (λ (t : Bool). holds (f x) c || t) (some_hold f xs c) ∙ cut (holds (f x) c) (recipes_at (map f xs) c)
    ∙ ap (ltb 0) (sym (sum_by-cons (λ r. cond (holds r c) 1 0) (f x) (map f xs)))
  where
    cut : (t : Bool) (n : ℕ) → (t || ltb 0 n) ≡ ltb 0 (cond t 1 0 + n)
    cut true n = sym (grind (arith, nat_tests))
    cut false n = grind (arith, nat_tests)

-- ---- the children in order

order_same : (f g : List ℕ) → order f g ≡ Equal → f ≡ g
order_same f g e = exact_bytes f g e

order_flip : (f g : List ℕ) → order f g ≡ Greater → order g f ≡ Less
order_flip f g e = (lists_total nat_cmp_total).antisymm g f ∙ ap ordering_reverse e

-- f at its place among the others, once
abbrev pub put : List ℕ → List (List ℕ) → List (List ℕ)
put f gs = insert_key order gs f

pub member_put : (f : List ℕ) (gs : List (List ℕ)) (c : List ℕ) → member (put f gs) c ≡ (bytes_eq f c || member gs c)
member_put f [] c = refl
member_put f (g ∷ gs) c = cut (order f g) refl (member_put f gs c)
  where
    swap : (a b m : Bool) → (b || (a || m)) ≡ (a || (b || m))
    swap a b m = grind arith

    twice : (a m : Bool) → (a || m) ≡ (a || (a || m))
    twice a m = grind arith

    cut : (o : Ordering) → order f g ≡ o → member (put f gs) c ≡ (bytes_eq f c || member gs c) → member (match_ordering o (f ∷ g ∷ gs) (g ∷ gs) (g ∷ put f gs)) c ≡ (bytes_eq f c || (bytes_eq g c || member gs c))
    cut Less e h = refl
    cut Equal e h = twice (bytes_eq g c) (member gs c) ∙ ap (λ (x : List ℕ). bytes_eq x c || (bytes_eq g c || member gs c)) (sym (order_same f g e))
    cut Greater e h = ap (λ (t : Bool). bytes_eq g c || t) h ∙ swap (bytes_eq f c) (bytes_eq g c) (member gs c)

all_put : (P : List ℕ → Type 0) (f : List ℕ) (gs : List (List ℕ)) → P f → AllByRecursion P gs → AllByRecursion P (put f gs)
all_put P f [] p a = (p, tt)
all_put P f (g ∷ gs) p a = cut (order f g) (all_put P f gs p a.1)
  where
    cut : (o : Ordering) → AllByRecursion P (put f gs) → AllByRecursion P (match_ordering o (f ∷ g ∷ gs) (g ∷ gs) (g ∷ put f gs))
    cut Less h = (p, a)
    cut Equal h = a
    cut Greater h = (a.0, h)

-- what stands before both f and a list stands before the list with f
before_put : (e f : List ℕ) (gs : List (List ℕ)) → order e f ≡ Less → Ascending (e ∷ gs) → Ascending (put f gs) → Ascending (e ∷ put f gs)
before_put e f [] l a h = (l, tt)
before_put e f (g ∷ gs) l a h = cut (order f g) h
  where
    cut : (o : Ordering) → Ascending (match_ordering o (f ∷ g ∷ gs) (g ∷ gs) (g ∷ put f gs)) → Ascending (e ∷ match_ordering o (f ∷ g ∷ gs) (g ∷ gs) (g ∷ put f gs))
    cut Less h = (l, h)
    cut Equal h = (a.0, h)
    cut Greater h = (a.0, h)

behind : (g : List ℕ) (gs : List (List ℕ)) → Ascending (g ∷ gs) → Ascending gs
behind g [] a = tt
behind g (h ∷ gs) a = a.1

ascending_put : (f : List ℕ) (gs : List (List ℕ)) → Ascending gs → Ascending (put f gs)
ascending_put f [] a = tt
ascending_put f (g ∷ gs) a = cut (order f g) refl (ascending_put f gs (behind g gs a))
  where
    cut : (o : Ordering) → order f g ≡ o → Ascending (put f gs) → Ascending (match_ordering o (f ∷ g ∷ gs) (g ∷ gs) (g ∷ put f gs))
    cut Less e h = (e, a)
    cut Equal e h = a
    cut Greater e h = before_put g f gs (order_flip f g e) a h

-- ---- one facet more

module _ (p : List ℕ) (fs : List (List ℕ)) (f : List ℕ) (cs : List (List ℕ)) (h : Children p fs cs) where
  more : (c : List ℕ) → holds (fs ++ f ∷ []) c ≡ (holds fs c || (at_or_below f c || false))
  more c = holds_append fs (f ∷ []) c

  still : AllByRecursion (λ (c : List ℕ). (child p c ≡ true) × (holds (fs ++ f ∷ []) c ≡ true)) cs
  still = All-weaker _ _ (λ c q. (q.0, more c ∙ or_left (holds fs c) (at_or_below f c || false) q.1)) cs h.sound

  which : (d : List ℕ) → holds (fs ++ f ∷ []) d ≡ true → (holds fs d ≡ true) ⊎ (at_or_below f d ≡ true)
  which d q = ⊎_elim inl (λ r. ⊎_elim inr (λ z. absurd (both_ways false refl z)) (or_cases (at_or_below f d) false r)) (or_cases (holds fs d) (at_or_below f d || false) (sym (more d) ∙ q))

  pub no_child_more : NoWay p f → Children p (fs ++ f ∷ []) cs
  no_child_more n = record {
    sound = still;
    whole = λ d c q. ⊎_elim (h.whole d c) (λ l. absurd (n d c l)) (which d q);
    ascending = h.ascending;
  }

  pub child_more : (c : List ℕ) → OnTheWay p f c → Children p (fs ++ f ∷ []) (put c cs)
  child_more c w = record {
    sound = all_put _ c cs (w.is_child, more c ∙ or_right (holds fs c) (at_or_below f c || false) (or_left (at_or_below f c) false w.leads)) still;
    whole = λ d k q. member_put c cs d ∙ ⊎_elim (λ l. or_right (bytes_eq c d) (member cs d) (h.whole d k l)) (λ l. or_left (bytes_eq c d) (member cs d) ((bytes_eq-Decides c d).1 (sym (w.only d k l)))) (which d q);
    ascending = ascending_put c cs h.ascending;
  }

pub no_children : (p : List ℕ) → Children p [] []
no_children p = record { sound = tt; whole = λ d c q. q; ascending = tt }

-- ---- the entries

module _ (g : List ℕ → ℕ) where
  abbrev pub entries : List (List ℕ) → List (List ℕ × ℕ)
  entries cs = map (λ (c : List ℕ). (c, g c)) cs

  count_entries : (cs : List (List ℕ)) (d : List ℕ) → count_of (entries cs) d ≡ cond (member cs d) (g d) 0
  count_entries [] d = refl
  count_entries (c ∷ cs) d = cut (bytes_eq c d) refl (count_entries cs d)
    where
      cut : (t : Bool) → bytes_eq c d ≡ t → count_of (entries cs) d ≡ cond (member cs d) (g d) 0 → cond t (g c) (count_of (entries cs) d) ≡ cond (t || member cs d) (g d) 0
      cut true e h = ap g ((bytes_eq-Decides c d).0 e)
      cut false e h = h

  firsts : (cs : List (List ℕ)) → map (λ (e : List ℕ × ℕ). e.0) (entries cs) ≡ cs
  firsts [] = refl
  firsts (c ∷ cs) = ap (λ (l : List (List ℕ)). c ∷ l) (firsts cs)

-- the counts at the children of p are the entries below it
pub counted : {X : Type 0} (f : X → List (List ℕ)) (xs : List X) (p : List ℕ) (cs : List (List ℕ)) → Children p (flat_map f xs) cs → Counted (map f xs) p (entries (recipes_at (map f xs)) cs)
counted f xs p cs h = record {
  counts = λ c k. count_entries (recipes_at (map f xs)) cs c ∙ cut c (member cs c) (recipes_at (map f xs) c) refl (λ z. h.whole c k (some_hold f xs c ∙ lt-ltb 0 _ z));
  entries = All-map _ (λ (c : List ℕ). (c, recipes_at (map f xs) c)) cs (All-weaker _ _ (λ c q. (q.0, ltb-true 0 _ (sym (some_hold f xs c) ∙ q.1))) cs h.sound);
  ascending = subst Ascending (sym (firsts (recipes_at (map f xs)) cs)) h.ascending;
}
  where
    cut : (c : List ℕ) (t : Bool) (n : ℕ) → member cs c ≡ t → (0 < n → member cs c ≡ true) → cond t n 0 ≡ n
    cut c true n e q = refl
    cut c false n e q = ⊎_elim (λ (z : 0 < n). absurd (both_ways (member cs c) e (q z))) (λ (z : n ≤ 0). omega arith) (cases_lt 0 n)
