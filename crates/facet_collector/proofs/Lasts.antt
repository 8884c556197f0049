-- Ascending children, and one more at the end. Assumes nothing.
use Rattle.std.proofs.Common.{◌≡◌, ℕ, zero, suc, ◌+◌, ◌<◌, ◌≤◌, Bool, true, false, cond, ◌||◌, List, [], ◌∷◌, ◌++◌, length, get_or, take, Less, Greater, sym, refl, ap, ◌∙◌, subst, ⊎_elim, arith}
use Rattle.facet.specs.Paths.{order}
use Rattle.std.proofs.lemmas.Slice.Eq.{bytes_eq-Decides}
use Rattle.std.proofs.lemmas.List.{take_more}
use Rattle.std.proofs.lemmas.Bool.{or_cases, true≢false}
use Rattle.std.specs.Cmp.Lexicographic.{nat_list_cmp_total}
use Rattle.std.specs.Ordering.{ordering_reverse}
use Rattle.std.specs.List.{AllByRecursion}
use Rattle.std.specs.Str.{bytes_eq}
use Rattle.facet_collector.specs.Children.{leads, insert, insert_some, children_from, children, member, place_in, last_of}
use Rattle.facet_collector.proofs.Sets.{Behind, Climbing, order_trans, led}
use Rattle.facet_collector.proofs.Sums.{is_false, order_self, by_cases}

pub turned : (s t : List ℕ) → order s t ≡ Less → order t s ≡ Greater
turned s t h = nat_list_cmp_total.antisymm t s ∙ ap ordering_reverse h

pub never_less : {B : Type 0} (s : List ℕ) → order s s ≡ Less → B
never_less s h = let e = order_self s in let z : ◌≡◌ {A = ℕ} 0 1 = cc in absurd (omega arith)

differs : (s t : List ℕ) → order s t ≡ Less → bytes_eq s t ≡ false
differs s t h = is_false _ (λ b. never_less s (subst (λ (x : List ℕ). order s x ≡ Less) (sym ((bytes_eq-Decides s t).0 b)) h))

abbrev pub Front : List ℕ → List (List ℕ) → Type 0
Front c ds = AllByRecursion (λ (d : List ℕ). order d c ≡ Less) ds

-- ---- the last of ascending ones

pub member_last : (cs : List (List ℕ)) → 0 < length cs → member cs (last_of cs) ≡ true
member_last [] z = absurd (omega arith)
member_last (c ∷ []) z = rw ((bytes_eq-Decides c c).1 refl)
member_last (c ∷ d ∷ ds) z = or_right (bytes_eq c (last_of (d ∷ ds))) _ (member_last (d ∷ ds) (omega arith))
  where
    or_right : (a b : Bool) → b ≡ true → (a || b) ≡ true
    or_right true b e = refl
    or_right false b e = e

pub some_there : (cs : List (List ℕ)) → 0 < length (last_of cs) → 0 < length cs
some_there [] z = z
some_there (c ∷ cs) z = omega arith

before_last : (b : List ℕ) (cs : List (List ℕ)) → 0 < length cs → Behind b cs → order b (last_of cs) ≡ Less
before_last b [] z h = absurd (omega arith)
before_last b (c ∷ []) z h = h.0
before_last b (c ∷ d ∷ ds) z h = before_last b (d ∷ ds) (omega arith) h.1

-- what stands behind the last stands behind all
pub front_all : (cs : List (List ℕ)) (c : List ℕ) → Climbing cs → order (last_of cs) c ≡ Less → Front c cs
front_all [] c r h = tt
front_all (d ∷ []) c r h = (h, tt)
front_all (d ∷ e ∷ ds) c r h =
    (order_trans d (last_of (e ∷ ds)) c (before_last d (e ∷ ds) (omega arith) r.0) h, front_all (e ∷ ds) c r.1 h)

insert_last : (cs : List (List ℕ)) → Climbing cs → 0 < length cs → insert (last_of cs) cs ≡ cs
insert_last [] r z = absurd (omega arith)
insert_last (c ∷ []) r z = rw (order_self c)
insert_last (c ∷ d ∷ ds) r z =
    rw (turned c (last_of (d ∷ ds)) (before_last c (d ∷ ds) (omega arith) r.0)) (ap (λ l. c ∷ l) (insert_last (d ∷ ds) r.1 (omega arith)))

insert_new : (c : List ℕ) (cs : List (List ℕ)) → Front c cs → insert c cs ≡ cs ++ c ∷ []
insert_new c [] h = refl
insert_new c (d ∷ ds) h = rw (turned d c h.0) (ap (λ l. d ∷ l) (insert_new c ds h.1))

-- as one more term adds them
pub some_last : (c : List ℕ) (cs : List (List ℕ)) → Climbing cs → 0 < length c → c ≡ last_of cs → insert_some c cs ≡ cs
some_last [] cs r z e = refl
some_last (x ∷ c) cs r z e =
    ap (λ d. insert d cs) e ∙ insert_last cs r (some_there cs (let l = ap length e in omega arith))

pub some_new : (c : List ℕ) (cs : List (List ℕ)) → 0 < length c → Front c cs → insert_some c cs ≡ cs ++ c ∷ []
some_new [] cs z h = absurd (omega arith)
some_new (x ∷ c) cs z h = insert_new (x ∷ c) cs h

pub some_none : (c : List ℕ) (cs : List (List ℕ)) → length c ≡ 0 → insert_some c cs ≡ cs
some_none [] cs z = refl
some_none (x ∷ c) cs z = absurd (omega arith)

pub last_new : (cs : List (List ℕ)) (c : List ℕ) → last_of (cs ++ c ∷ []) ≡ c
last_new [] c = refl
last_new (d ∷ []) c = refl
last_new (d ∷ e ∷ ds) c = last_new (e ∷ ds) c

-- ---- places

pub place_last : (cs : List (List ℕ)) → Climbing cs → 0 < length cs → suc (place_in cs (last_of cs)) ≡ length cs
place_last [] r z = absurd (omega arith)
place_last (c ∷ []) r z = rw ((bytes_eq-Decides c c).1 refl)
place_last (c ∷ d ∷ ds) r z =
    rw (differs c (last_of (d ∷ ds)) (before_last c (d ∷ ds) (omega arith) r.0)) (ap suc (place_last (d ∷ ds) r.1 (omega arith)))

pub place_new : (cs : List (List ℕ)) (c : List ℕ) → Front c cs → place_in (cs ++ c ∷ []) c ≡ length cs
place_new [] c h = rw ((bytes_eq-Decides c c).1 refl)
place_new (d ∷ ds) c h = rw (differs d c h.0) (ap suc (place_new ds c h.1))

pub place_kept : (cs ds : List (List ℕ)) (q : List ℕ) → member cs q ≡ true → place_in (cs ++ ds) q ≡ place_in cs q
place_kept [] ds q h = absurd (true≢false (sym h))
place_kept (c ∷ cs) ds q h = go (bytes_eq c q) h (place_kept cs ds q)
  where
    go : (b : Bool) → (b || member cs q) ≡ true → (member cs q ≡ true → place_in (cs ++ ds) q ≡ place_in cs q) → cond b 0 (suc (place_in (cs ++ ds) q)) ≡ cond b 0 (suc (place_in cs q))
    go true h ih = refl
    go false h ih = ap suc (ih h)

pub place_within : (cs : List (List ℕ)) (q : List ℕ) → member cs q ≡ true → place_in cs q < length cs
place_within [] q h = absurd (true≢false (sym h))
place_within (c ∷ cs) q h = go (bytes_eq c q) h (place_within cs q)
  where
    go : (b : Bool) → (b || member cs q) ≡ true → (member cs q ≡ true → place_in cs q < length cs) → cond b 0 (suc (place_in cs q)) < length (c ∷ cs)
    go true h ih = omega arith
    go false h ih = let l = ih h in omega arith

pub place_at : (cs : List (List ℕ)) (q : List ℕ) → member cs q ≡ true → get_or cs (place_in cs q) [] ≡ q
place_at [] q h = absurd (true≢false (sym h))
place_at (c ∷ cs) q h = go (bytes_eq c q) refl h (place_at cs q)
  where
    go : (b : Bool) → bytes_eq c q ≡ b → (b || member cs q) ≡ true → (member cs q ≡ true → get_or cs (place_in cs q) [] ≡ q) → get_or (c ∷ cs) (cond b 0 (suc (place_in cs q))) [] ≡ q
    go true e h ih = (bytes_eq-Decides c q).0 e
    go false e h ih = ih h

-- ---- one term more

from_append : (rs cs ts us : List (List ℕ)) → children_from rs cs (ts ++ us) ≡ children_from rs (children_from rs cs ts) us
from_append rs cs [] us = refl
from_append rs cs (t ∷ ts) us = from_append rs (insert_some (leads rs t) cs) ts us

pub children_more : (rs ts : List (List ℕ)) (i : ℕ) → i < length ts → children rs (take (i + 1) ts) ≡ insert_some (leads rs (get_or ts i [])) (children rs (take i ts))
children_more rs ts i h = ap (children rs) (take_more ts i [] h) ∙ from_append rs [] (take i ts) (get_or ts i [] ∷ [])

insert_longer : (c : List ℕ) (cs : List (List ℕ)) → length cs ≤ length (insert c cs)
insert_longer c [] = omega arith
insert_longer c (d ∷ ds) =
    by_cases (λ l. length (d ∷ ds) ≤ length l) (order c d) _ _ _ (λ _. omega arith) (λ _. omega arith) (λ _. omega (arith, insert_longer c ds))

some_longer : (c : List ℕ) (cs : List (List ℕ)) → length cs ≤ length (insert_some c cs)
some_longer [] cs = omega arith
some_longer (x ∷ c) cs = insert_longer (x ∷ c) cs

from_longer : (rs cs ts : List (List ℕ)) → length cs ≤ length (children_from rs cs ts)
from_longer rs cs [] = omega arith
from_longer rs cs (t ∷ ts) = let a = some_longer (leads rs t) cs in let b = from_longer rs (insert_some (leads rs t) cs) ts in omega arith

-- more terms lead to no fewer children
pub children_longer : (rs ts us : List (List ℕ)) → length (children rs ts) ≤ length (children rs (ts ++ us))
children_longer rs ts us = rw (from_append rs [] ts us) (from_longer rs (children rs ts) us)

-- ---- a term that leads to a child

pub led_place : (rs ts : List (List ℕ)) (q : List ℕ) → led rs q ts ≡ true → (o : ℕ) × (o < length ts) × (leads rs (get_or ts o []) ≡ q)
led_place rs [] q h = absurd (true≢false (sym h))
led_place rs (t ∷ ts) q h =
    ⊎_elim (λ (e : bytes_eq (leads rs t) q ≡ true). (0, omega arith, (bytes_eq-Decides (leads rs t) q).0 e))
    (λ (e : led rs q ts ≡ true). let (o, l, k) = led_place rs ts q e in (suc o, omega arith, k)) (or_cases (bytes_eq (leads rs t) q) (led rs q ts) h)

pub led_at : (rs ts : List (List ℕ)) (o : ℕ) → o < length ts → led rs (leads rs (get_or ts o [])) ts ≡ true
led_at rs [] o l = absurd (omega arith)
led_at rs (t ∷ ts) zero l = rw ((bytes_eq-Decides (leads rs t) (leads rs t)).1 refl)
led_at rs (t ∷ ts) (suc o) l = right (bytes_eq (leads rs t) (leads rs (get_or ts o []))) (led_at rs ts o (omega arith))
  where
    right : (a : Bool) {b : Bool} → b ≡ true → (a || b) ≡ true
    right true e = refl
    right false e = e

pub front_not_member : (c : List ℕ) (cs : List (List ℕ)) → Front c cs → member cs c ≡ false
front_not_member c [] h = refl
front_not_member c (d ∷ ds) h = rw (differs d c h.0) (front_not_member c ds h.1)
