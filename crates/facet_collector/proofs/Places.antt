-- Where a facet's entry is, and what is put there.
use Rattle.std.proofs.Common.{◌≡◌, ◌≢◌, ℕ, zero, suc, ◌+◌, ◌<◌, ◌≤◌, Bool, true, false, cond, List, [], ◌∷◌, ◌++◌, length, set, get_or, take, drop, Ok, Err, Result, Ordering, Less, Equal, Greater, sym, refl, ap, subst, ◌∙◌, arith}
use Rattle.std.specs.Cmp.Lexicographic.{nat_list_cmp_total}
use Rattle.std.specs.List.Sorted.{IsStrictlySortedBy, IsSortedBy, IsBinarySearchResult, IsSearchInRange}
use Rattle.std.specs.List.{insert}
use Rattle.std.specs.Ordering.{is_lt, is_gt, ordering_reverse, match_ordering as by_order}
use Rattle.std.specs.Str.{bytes_eq}
use Rattle.std.proofs.lemmas.Slice.Eq.{bytes_eq-Decides}
use Rattle.std.proofs.lemmas.Map.Keys.{Less-from_sorted}
use Rattle.std.proofs.lemmas.Map.Lookups.{exact_bytes}
use Rattle.std.proofs.lemmas.Bool.{lt-ltb, true≢false}
use Rattle.std.proofs.lemmas.List.{get_or_default, length-set, take-append-drop, take_more}
use Rattle.std.proofs.lemmas.List.Edits.{length-insert}
use Rattle.std.proofs.lemmas.List.Sorted.{searchable_from_sorted}
use Rattle.facet.specs.Paths.{order}
use Rattle.collector.specs.Facets.{count_of}
use Rattle.facet_collector.specs.Entries.{put, sums, sound, fits}
use Rattle.facet_collector.specs.Placed.{Placed, Between, entry, facet_at}
use Rattle.facet_collector.proofs.Sums.{Positive, Rises, Small, ahead, from_fits, from_sound, is_false, order_self, order_turn, same_self, sums_fits, to_fits}

turned : (f g : List ℕ) → order f g ≡ Less → order g f ≡ Greater
turned f g h = nat_list_cmp_total.antisymm g f ∙ ap ordering_reverse h

sorted : (es : List (List ℕ × ℕ)) → Rises es → IsSortedBy (λ x y. is_lt (order x.0 y.0)) es
sorted es r k d _ h =
    ap is_lt (turned (get_or es k d).0 (get_or es (k + 1) d).0 (Less-from_sorted ahead es k (k + 1) d r (omega arith) h))

-- what a binary search by facets finds
pub found : (es : List (List ℕ × ℕ)) (f : List ℕ) (r : Result ℕ ℕ) → Rises es → IsSearchInRange r (length es)
    → IsBinarySearchResult (λ (y : List ℕ × ℕ). order y.0 f) es r → Placed es f r
found es f (Ok i) s b p = (b, exact_bytes (facet_at es i) f (p ([], 0)))
found es f (Err i) s b p =
    let q = p (searchable_from_sorted nat_list_cmp_total (λ (e : List ℕ × ℕ). e.0) es f (sorted es s)) in
    record { within = b; before = λ k h. q.0 k ([], 0) (omega arith) h; behind = λ k h l. q.1 k ([], 0) h l }

-- ---- counts

pub count_at : (es : List (List ℕ × ℕ)) (i : ℕ) → Rises es → i < length es → count_of es (facet_at es i) ≡ (get_or es i ([], 0)).1
unfolding IsStrictlySortedBy
count_at [] i r h = absurd (omega arith)
count_at (e ∷ es) zero r h = ap (λ (b : Bool). cond b e.1 (count_of es e.0)) (same_self e.0)
count_at (e ∷ es) (suc i) r h =
    let l = Less-from_sorted ahead (e ∷ es) 0 (suc i) ([], 0) r (omega arith) h in
    ap (λ (b : Bool). cond b e.1 (count_of es (facet_at es i))) (apart' e.0 (facet_at es i) l) ∙ count_at es i r.1 (omega arith)
  where
    apart' : (f g : List ℕ) → order f g ≡ Less → bytes_eq f g ≡ false
    apart' f g h = is_false (bytes_eq f g) (λ b. true≢false (ap is_lt (sym h ∙ ap (order f) (sym ((bytes_eq-Decides f g).0 b)) ∙ order_self f)))

differ : (o : Ordering) (f g : List ℕ) → o ≢ Equal → order f g ≡ o → bytes_eq f g ≡ false
differ o f g n h = is_false (bytes_eq f g) (λ b. n (sym h ∙ ap (order f) (sym ((bytes_eq-Decides f g).0 b)) ∙ order_self f))

-- of what stands behind the first entry
later : (e : List ℕ × ℕ) (es : List (List ℕ × ℕ)) (i : ℕ) (f : List ℕ) → Between (e ∷ es) f (suc i) → Between es f i
later e es i f p = record {
  within = omega (arith, p.within);
  before = λ k h. p.before (suc k) (omega arith);
  behind = λ k h l. p.behind (suc k) (omega arith) (omega arith);
}

pub count_none : (es : List (List ℕ × ℕ)) (i : ℕ) (f : List ℕ) → Between es f i → count_of es f ≡ 0
count_none [] i f p = refl
count_none (e ∷ es) zero f p =
    ap (λ (b : Bool). cond b e.1 (count_of es f)) (differ Greater e.0 f (λ q. true≢false (ap is_gt q)) (p.behind 0 (omega arith) (omega arith)))
    ∙ count_none es 0 f record { within = omega arith; before = λ k h. absurd (omega arith); behind = λ k _ h. p.behind (suc k) (omega arith) (omega arith) }
count_none (e ∷ es) (suc i) f p =
    ap (λ (b : Bool). cond b e.1 (count_of es f)) (differ Less e.0 f (λ q. true≢false (ap is_lt q)) (p.before 0 (omega arith)))
    ∙ count_none es i f (later e es i f p)

-- ---- what is put

-- where there is no entry
pub put_new : (es : List (List ℕ × ℕ)) (i : ℕ) (f : List ℕ) (n : ℕ) → Between es f i → put f n es ≡ insert es i (f, n)
put_new [] zero f n p = refl
put_new [] (suc i) f n p = absurd (omega (arith, p.within))
put_new (e ∷ es) zero f n p =
    ap (λ o. by_order o ((f, n) ∷ e ∷ es) ((e.0, e.1 + n) ∷ es) (e ∷ put f n es)) (order_turn e.0 f (p.behind 0 (omega arith) (omega arith)))
put_new (e ∷ es) (suc i) f n p =
    ap (λ o. by_order o ((f, n) ∷ e ∷ es) ((e.0, e.1 + n) ∷ es) (e ∷ put f n es)) (turned e.0 f (p.before 0 (omega arith)))
    ∙ ap (λ l. e ∷ l) (put_new es i f n (later e es i f p))

-- where there is one
pub put_at : (es : List (List ℕ × ℕ)) (i : ℕ) (n : ℕ) → Rises es → i < length es
    → put (facet_at es i) n es ≡ set es i (facet_at es i, (get_or es i ([], 0)).1 + n)
unfolding IsStrictlySortedBy
put_at [] i n r h = absurd (omega arith)
put_at (e ∷ es) zero n r h = ap (λ o. by_order o ((e.0, n) ∷ e ∷ es) ((e.0, e.1 + n) ∷ es) (e ∷ put e.0 n es)) (order_self e.0)
put_at (e ∷ es) (suc i) n r h =
    let t = turned e.0 (facet_at es i) (Less-from_sorted ahead (e ∷ es) 0 (suc i) ([], 0) r (omega arith) h) in
    ap (λ o. by_order o ((facet_at es i, n) ∷ e ∷ es) ((e.0, e.1 + n) ∷ es) (e ∷ put (facet_at es i) n es)) t
    ∙ ap (λ l. e ∷ l) (put_at es i n r.1 (omega arith))

-- ---- what fits

small_insert : (es : List (List ℕ × ℕ)) (i : ℕ) (x : List ℕ × ℕ) → Small es → x.1 ≤ 4294967295 → Small (insert es i x)
small_insert [] zero x s h = (h, tt)
small_insert [] (suc i) x s h = (h, tt)
small_insert (e ∷ es) zero x s h = (h, s)
small_insert (e ∷ es) (suc i) x s h = (s.0, small_insert es i x s.1 h)

insert_small : (es : List (List ℕ × ℕ)) (i : ℕ) (x : List ℕ × ℕ) → Small (insert es i x) → x.1 ≤ 4294967295
insert_small [] zero x s = s.0
insert_small [] (suc i) x s = s.0
insert_small (e ∷ es) zero x s = s.0
insert_small (e ∷ es) (suc i) x s = insert_small es i x s.1

small_set : (es : List (List ℕ × ℕ)) (i : ℕ) (x : List ℕ × ℕ) → Small es → x.1 ≤ 4294967295 → Small (set es i x)
small_set [] i x s h = tt
small_set (e ∷ es) zero x s h = (h, s.1)
small_set (e ∷ es) (suc i) x s h = (s.0, small_set es i x s.1 h)

set_small : (es : List (List ℕ × ℕ)) (i : ℕ) (x : List ℕ × ℕ) → i < length es → Small (set es i x) → x.1 ≤ 4294967295
set_small [] i x l s = absurd (omega arith)
set_small (e ∷ es) zero x l s = s.0
set_small (e ∷ es) (suc i) x l s = set_small es i x (omega arith) s.1

pub small_at : (es : List (List ℕ × ℕ)) (i : ℕ) → Small es → i < length es → (get_or es i ([], 0)).1 ≤ 4294967295
small_at [] i s h = absurd (omega arith)
small_at (e ∷ es) zero s h = s.0
small_at (e ∷ es) (suc i) s h = small_at es i s.1 (omega arith)

pub new_fits : (es : List (List ℕ × ℕ)) (i : ℕ) (f : List ℕ) (n : ℕ) → Between es f i → fits es ≡ true → length es < 128 → n ≤ 4294967295 → fits (put f n es) ≡ true
new_fits es i f n p h l m =
    let s = from_fits es h in
    rw (put_new es i f n p) (to_fits (insert es i (f, n)) (omega (arith, length-insert es i (f, n) p.within)) (small_insert es i (f, n) s.1 m))

pub new_unfit_many : (es : List (List ℕ × ℕ)) (i : ℕ) (f : List ℕ) (n : ℕ) → Between es f i → length es ≡ 128 → fits (put f n es) ≡ false
new_unfit_many es i f n p l =
    is_false (fits (put f n es)) (λ h. omega (arith, (from_fits (put f n es) h).0, ap length (put_new es i f n p), length-insert es i (f, n) p.within))

pub new_unfit_large : (es : List (List ℕ × ℕ)) (i : ℕ) (f : List ℕ) (n : ℕ) → Between es f i → 4294967295 < n → fits (put f n es) ≡ false
new_unfit_large es i f n p l =
    is_false (fits (put f n es)) (λ h. omega (arith, insert_small es i (f, n) (subst Small (put_new es i f n p) (from_fits (put f n es) h).1)))

pub more_fits : (es : List (List ℕ × ℕ)) (i n : ℕ) → Rises es → fits es ≡ true → i < length es → (get_or es i ([], 0)).1 + n ≤ 4294967295 → fits (put (facet_at es i) n es) ≡ true
more_fits es i n r h l m =
    let s = from_fits es h in
    let x : List ℕ × ℕ = (facet_at es i, (get_or es i ([], 0)).1 + n) in
    rw (put_at es i n r l) (to_fits (set es i x) (omega (arith, s.0, length-set es i x)) (small_set es i x s.1 m))

pub more_unfit : (es : List (List ℕ × ℕ)) (i n : ℕ) → Rises es → i < length es → 4294967295 < (get_or es i ([], 0)).1 + n → fits (put (facet_at es i) n es) ≡ false
more_unfit es i n r l m =
    let x : List ℕ × ℕ = (facet_at es i, (get_or es i ([], 0)).1 + n) in
    is_false (fits (put (facet_at es i) n es)) (λ h. omega (arith, set_small es i x l (subst Small (put_at es i n r l) (from_fits (put (facet_at es i) n es) h).1)))

-- ---- one after another

pub sums-append : (xs ys zs : List (List ℕ × ℕ)) → sums xs (ys ++ zs) ≡ sums (sums xs ys) zs
sums-append xs [] zs = refl
sums-append xs (y ∷ ys) zs = sums-append (put y.0 y.1 xs) ys zs

pub positive_at : (es : List (List ℕ × ℕ)) (i : ℕ) (d : List ℕ × ℕ) → Positive es → i < length es → 0 < (get_or es i d).1
positive_at [] i d p h = absurd (omega arith)
positive_at (e ∷ es) zero d p h = p.0
positive_at (e ∷ es) (suc i) d p h = positive_at es i d p.1 (omega arith)

-- ---- in an array

take_set : (len : ℕ) (xs : List (List ℕ × ℕ)) (i : ℕ) (x : List ℕ × ℕ) → take len (set xs i x) ≡ set (take len xs) i x
take_set zero xs i x = refl
take_set (suc len) [] i x = refl
take_set (suc len) (e ∷ xs) zero x = refl
take_set (suc len) (e ∷ xs) (suc i) x = ap (λ l. e ∷ l) (take_set len xs i x)

-- of the entry at i, read with another default
pub small_read : (es : List (List ℕ × ℕ)) (i : ℕ) (x : List ℕ × ℕ) → fits es ≡ true → i < length es → (get_or es i x).1 ≤ 4294967295
small_read es i x s h = rw (get_or_default es i x ([], 0) h) (small_at es i (from_fits es s).1 h)

pub unfit_read : (es : List (List ℕ × ℕ)) (i n : ℕ) (x : List ℕ × ℕ) → Rises es → i < length es → 4294967295 < (get_or es i x).1 + n → fits (put (facet_at es i) n es) ≡ false
unfit_read es i n x r h m = more_unfit es i n r h (subst (λ (y : List ℕ × ℕ). 4294967295 < y.1 + n) (get_or_default es i x ([], 0) h) m)

pub fit_read : (es : List (List ℕ × ℕ)) (i n : ℕ) (x : List ℕ × ℕ) → Rises es → fits es ≡ true → i < length es → (get_or es i x).1 + n ≤ 4294967295 → fits (put (facet_at es i) n es) ≡ true
fit_read es i n x r s h m = more_fits es i n r s h (subst (λ (y : List ℕ × ℕ). y.1 + n ≤ 4294967295) (get_or_default es i x ([], 0) h) m)

pub raised : (xs es : List (List ℕ × ℕ)) (len i n : ℕ) (x y : List ℕ × ℕ) → take len xs ≡ es → Rises es → i < length es
    → take len (set xs i ((get_or es i x).0, (get_or es i y).1 + n)) ≡ put (facet_at es i) n es
raised xs es len i n x y e r h =
    take_set len xs i ((get_or es i x).0, (get_or es i y).1 + n)
    ∙ (λ j. set (e j) i ((get_or_default es i x ([], 0) h j).0, (get_or_default es i y ([], 0) h j).1 + n))
    ∙ sym (put_at es i n r h)

-- ---- one after another

-- an entry among sound ones is put
worth : (es : List (List ℕ × ℕ)) (i : ℕ) (x : List ℕ × ℕ) → sound es ≡ true → i < length es → x ≡ get_or es i x → (xs : List (List ℕ × ℕ)) → sums xs (entry x.0 x.1) ≡ put x.0 x.1 xs
worth es i x s h e xs =
    ap (λ (b : Bool). sums xs (cond b (x ∷ []) [])) (lt-ltb 0 x.1 (subst (λ (y : List ℕ × ℕ). 0 < y.1) (sym e) (positive_at es i x (from_sound es s).1 h)))

next : (xs es : List (List ℕ × ℕ)) (i : ℕ) (zs : List (List ℕ × ℕ)) (x : List ℕ × ℕ) → zs ≡ sums xs (take i es) → i < length es → x ≡ get_or es i x → sums xs (take (i + 1) es) ≡ put x.0 x.1 zs
next xs es i zs x z h e =
    ap (sums xs) (take_more es i x h) ∙ sums-append xs (take i es) (get_or es i x ∷ []) ∙ (λ j. put (sym e j).0 (sym e j).1 (sym z j))

pub add_more : (xs es : List (List ℕ × ℕ)) (i : ℕ) (zs ws : List (List ℕ × ℕ)) (x : List ℕ × ℕ) → zs ≡ sums xs (take i es) → i < length es → x ≡ get_or es i x → sound es ≡ true
    → ws ≡ sums zs (entry x.0 x.1) → ws ≡ sums xs (take (i + 1) es)
add_more xs es i zs ws x z h e s w = w ∙ worth es i x s h e zs ∙ sym (next xs es i zs x z h e)

pub add_fails : (xs es : List (List ℕ × ℕ)) (i : ℕ) (zs : List (List ℕ × ℕ)) (x : List ℕ × ℕ) → zs ≡ sums xs (take i es) → i < length es → x ≡ get_or es i x → sound es ≡ true
    → fits (sums zs (entry x.0 x.1)) ≡ false → fits (sums xs es) ≡ false
add_fails xs es i zs x z h e s n =
    is_false (fits (sums xs es)) (λ f. true≢false (sym (all f) ∙ n))
  where
    all : fits (sums xs es) ≡ true → fits (sums zs (entry x.0 x.1)) ≡ true
    all f =
        rw (worth es i x s h e zs, ← next xs es i zs x z h e)
        (sums_fits (sums xs (take (i + 1) es)) (drop (i + 1) es)
        (ap fits (sym (sums-append xs (take (i + 1) es) (drop (i + 1) es)) ∙ ap (sums xs) (take-append-drop (i + 1) es)) ∙ f))
