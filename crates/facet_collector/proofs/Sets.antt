-- Children in order, each once. Assumes nothing.
use Rattle.std.proofs.Common.{◌≡◌, ℕ, ◌<◌, Bool, true, false, cond, ◌||◌, ltb, List, [], ◌∷◌, length, Less, sym, refl, ap, ◌∙◌, subst, ⊎_elim, arith}
use Rattle.collector.specs.Facets.{requested_child, holds, count_of}
use Rattle.facet.specs.Paths.{at_or_below, child, order}
use Rattle.std.proofs.lemmas.Slice.Eq.{bytes_eq-Decides}
use Rattle.std.proofs.lemmas.Map.Lookups.{exact_bytes}
use Rattle.std.proofs.lemmas.Bool.{and_from, or_cases, both_ways, true≢false}
use Rattle.std.specs.Cmp.Lexicographic.{nat_list_cmp_total}
use Rattle.std.specs.Ordering.{is_lt}
use Rattle.std.specs.List.{list_all, AllByRecursion}
use Rattle.std.specs.Str.{bytes_eq}
use Rattle.facet_collector.specs.Ascents.{is_strictly_sorted_by}
use Rattle.facet_collector.specs.Children.{requestable, leads, insert, insert_some, children_from, children, member, ones}
use Rattle.facet_collector.specs.Entries.{sound}
use Rattle.facet_collector.proofs.Paths.{leads_sound, leads_is, flipped}
use Rattle.facet_collector.proofs.Sums.{by_cases}

pub order_trans : (s t u : List ℕ) → order s t ≡ Less → order t u ≡ Less → order s u ≡ Less
order_trans s t u = nat_list_cmp_total.trans s t u

-- ---- ascending

abbrev pub Behind : List ℕ → List (List ℕ) → Type 0
Behind c ds = AllByRecursion (λ (d : List ℕ). order c d ≡ Less) ds

abbrev pub Climbing : List (List ℕ) → Type 0
Climbing [] = Unit {0}
Climbing (d ∷ ds) = Behind d ds × Climbing ds

behind_further : (b c : List ℕ) (ds : List (List ℕ)) → order b c ≡ Less → Behind c ds → Behind b ds
behind_further b c [] h a = tt
behind_further b c (d ∷ ds) h a = (order_trans b c d h a.0, behind_further b c ds h a.1)

insert_behind : (b c : List ℕ) (ds : List (List ℕ)) → order b c ≡ Less → Behind b ds → Behind b (insert c ds)
insert_behind b c [] h a = (h, tt)
insert_behind b c (d ∷ ds) h a =
    by_cases (Behind b) (order c d) _ _ _ (λ _. (h, a)) (λ _. a) (λ _. (a.0, insert_behind b c ds h a.1))

pub insert_climbs : (c : List ℕ) (ds : List (List ℕ)) → Climbing ds → Climbing (insert c ds)
insert_climbs c [] r = (tt, tt)
insert_climbs c (d ∷ ds) r =
    by_cases Climbing (order c d) _ _ _ (λ h. ((h, behind_further c d ds h r.0), r)) (λ _. r) (λ h. (insert_behind d c ds (flipped c d h) r.0, insert_climbs c ds r.1))

some_climbs : (c : List ℕ) (ds : List (List ℕ)) → Climbing ds → Climbing (insert_some c ds)
some_climbs [] ds r = r
some_climbs (x ∷ c) ds r = insert_climbs (x ∷ c) ds r

from_climbs : (rs cs ts : List (List ℕ)) → Climbing cs → Climbing (children_from rs cs ts)
from_climbs rs cs [] r = r
from_climbs rs cs (t ∷ ts) r = from_climbs rs (insert_some (leads rs t) cs) ts (some_climbs (leads rs t) cs r)

pub children_climb : (rs ts : List (List ℕ)) → Climbing (children rs ts)
children_climb rs ts = from_climbs rs [] ts tt

-- ---- members

swap_or : (a b c : Bool) → (a || (b || c)) ≡ (b || (a || c))
swap_or true true c = refl
swap_or true false c = refl
swap_or false true c = refl
swap_or false false c = refl

again : (a b : Bool) → (a || b) ≡ (a || (a || b))
again true b = refl
again false b = refl

member_insert : (c : List ℕ) (ds : List (List ℕ)) (q : List ℕ) → member (insert c ds) q ≡ (bytes_eq c q || member ds q)
member_insert c [] q = refl
member_insert c (d ∷ ds) q =
    by_cases (λ l. member l q ≡ (bytes_eq c q || member (d ∷ ds) q)) (order c d) _ _ _ (λ _. refl)
    (λ h. again (bytes_eq d q) (member ds q) ∙ ap (λ (x : List ℕ). bytes_eq x q || (bytes_eq d q || member ds q)) (sym (exact_bytes c d h)))
    (λ _. ap (λ b. bytes_eq d q || b) (member_insert c ds q) ∙ swap_or (bytes_eq d q) (bytes_eq c q) (member ds q))

-- some term leads to q
abbrev pub led : List (List ℕ) → List ℕ → List (List ℕ) → Bool
led rs q [] = false
led rs q (t ∷ ts) = bytes_eq (leads rs t) q || led rs q ts

member_some : (c : List ℕ) (ds : List (List ℕ)) (q : List ℕ) → 0 < length q → member (insert_some c ds) q ≡ (bytes_eq c q || member ds q)
member_some [] ds [] z = absurd (omega arith)
member_some [] ds (x ∷ q) z = refl
member_some (x ∷ c) ds q z = member_insert (x ∷ c) ds q

assoc_or : (a b c : Bool) → ((a || b) || c) ≡ (b || (a || c))
assoc_or true true c = refl
assoc_or true false c = refl
assoc_or false true c = refl
assoc_or false false c = refl

member_from : (rs cs ts : List (List ℕ)) (q : List ℕ) → 0 < length q → member (children_from rs cs ts) q ≡ (member cs q || led rs q ts)
member_from rs cs [] q z = or_none (member cs q)
  where
    or_none : (b : Bool) → b ≡ (b || false)
    or_none true = refl
    or_none false = refl
member_from rs cs (t ∷ ts) q z =
    member_from rs (insert_some (leads rs t) cs) ts q z
    ∙ ap (λ b. b || led rs q ts) (member_some (leads rs t) cs q z)
    ∙ assoc_or (bytes_eq (leads rs t) q) (member cs q) (led rs q ts)

pub member_children : (rs ts : List (List ℕ)) (q : List ℕ) → 0 < length q → member (children rs ts) q ≡ led rs q ts
member_children rs ts q z = member_from rs [] ts q z

-- ---- a term leads to a requested child exactly when it is at or below it

pub child_full : (rs : List (List ℕ)) (q : List ℕ) → requested_child rs q ≡ true → 0 < length q
child_full rs (x ∷ q) k = omega arith
child_full rs [] k = absurd (both_ways _ (none rs) k)
  where
    no_root : (r : List ℕ) → child r [] ≡ false
    no_root [] = refl
    no_root (a ∷ r) = refl

    none : (rs : List (List ℕ)) → requested_child rs [] ≡ false
    none [] = refl
    none (r ∷ rs) = rw (no_root r) (none rs)

same_tests : (a b : Bool) → (a ≡ true → b ≡ true) → (b ≡ true → a ≡ true) → a ≡ b
same_tests true b f g = sym (f refl)
same_tests false true f g = g refl
same_tests false false f g = refl

module _ (rs : List (List ℕ)) (ok : requestable rs ≡ true) (q : List ℕ) where
  pub led_holds : (ts : List (List ℕ)) → requested_child rs q ≡ true → led rs q ts ≡ holds ts q
  led_holds [] k = refl
  led_holds (t ∷ ts) k =
      (λ i. same_tests (bytes_eq (leads rs t) q) (at_or_below t q)
      (λ e. let s = (bytes_eq-Decides (leads rs t) q).0 e in subst (λ (x : List ℕ). at_or_below t x ≡ true) s (leads_sound rs t (let l = ap length s in let z = child_full rs q k in omega arith)).1)
      (λ e. (bytes_eq-Decides (leads rs t) q).1 (leads_is rs t q ok k e)) i
      || led_holds ts k i)

pub led_child : (rs : List (List ℕ)) (q : List ℕ) (ts : List (List ℕ)) → 0 < length q → led rs q ts ≡ true → requested_child rs q ≡ true
led_child rs q [] z h = absurd (true≢false (sym h))
led_child rs q (t ∷ ts) z h =
    ⊎_elim (λ (e : bytes_eq (leads rs t) q ≡ true). let s = (bytes_eq-Decides (leads rs t) q).0 e in subst (λ (x : List ℕ). requested_child rs x ≡ true) s (leads_sound rs t (let l = ap length s in omega arith)).0)
    (λ e. led_child rs q ts z e) (or_cases (bytes_eq (leads rs t) q) (led rs q ts) h)

pub no_empty : (rs cs ts : List (List ℕ)) → member (children_from rs cs ts) [] ≡ member cs []
no_empty rs cs [] = refl
no_empty rs cs (t ∷ ts) = no_empty rs (insert_some (leads rs t) cs) ts ∙ skip (leads rs t)
  where
    skip : (c : List ℕ) → member (insert_some c cs) [] ≡ member cs []
    skip [] = refl
    skip (x ∷ c) = member_insert (x ∷ c) cs []

-- a child that terms lead to is requested
pub member_child : (rs ts : List (List ℕ)) (q : List ℕ) → member (children rs ts) q ≡ true → requested_child rs q ≡ true
member_child rs ts [] h = absurd (true≢false (sym (sym (no_empty rs [] ts) ∙ h)))
member_child rs ts (x ∷ q) h = led_child rs (x ∷ q) ts (omega arith) (sym (member_children rs ts (x ∷ q) (omega arith)) ∙ h)

-- and a requested child is one that terms lead to exactly when one of them is at or below it
pub member_holds : (rs ts : List (List ℕ)) (q : List ℕ) → requestable rs ≡ true → requested_child rs q ≡ true → member (children rs ts) q ≡ holds ts q
member_holds rs ts q ok k = member_children rs ts q (child_full rs q k) ∙ led_holds rs ok q ts k

-- ---- as entries

pub count_ones : (cs : List (List ℕ)) (q : List ℕ) → count_of (ones cs) q ≡ cond (member cs q) 1 0
count_ones [] q = refl
count_ones (c ∷ cs) q = go (bytes_eq c q) (count_ones cs q)
  where
    go : (b : Bool) → count_of (ones cs) q ≡ cond (member cs q) 1 0 → cond b 1 (count_of (ones cs) q) ≡ cond (b || member cs q) 1 0
    go true h = refl
    go false h = h

pub ones_sound : (cs : List (List ℕ)) → Climbing cs → sound (ones cs) ≡ true
ones_sound cs r = and_from _ _ (ascends cs r) (positive cs)
  where
    above_first : (c : List ℕ) (ds : List (List ℕ)) → Behind c ds → list_all (λ (y : List ℕ × ℕ). is_lt (order c y.0)) (ones ds) ≡ true
    above_first c [] a = refl
    above_first c (d ∷ ds) a = and_from _ _ (ap is_lt a.0) (above_first c ds a.1)

    ascends : (cs : List (List ℕ)) → Climbing cs → is_strictly_sorted_by (λ (x y : List ℕ × ℕ). order x.0 y.0) (ones cs) ≡ true
    ascends [] r = refl
    ascends (c ∷ cs) r = and_from _ _ (above_first c cs r.0) (ascends cs r.1)

    positive : (cs : List (List ℕ)) → list_all (λ (e : List ℕ × ℕ). ltb 0 e.1) (ones cs) ≡ true
    positive [] = refl
    positive (c ∷ cs) = positive cs
