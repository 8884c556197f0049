-- The laws of counts by facet.
use Rattle.std.proofs.Common.{◌≡◌, ℕ, ◌+◌, ◌<◌, ◌≤◌, Bool, true, false, cond, ltb, leb, List, [], ◌∷◌, map, length, Decides, Ordering, Less, Equal, Greater, sym, refl, ap, ◌∙◌, arith}
use Rattle.std.specs.Cmp.Lexicographic.{nat_list_cmp_total}
use Rattle.std.specs.Ordering.{is_lt, is_gt, ordering_reverse, match_ordering as by_order}
use Rattle.std.specs.List.Sorted.{IsStrictlySortedBy}
use Rattle.std.specs.List.{list_all, AllByRecursion}
use Rattle.std.specs.Str.{bytes_eq}
use Rattle.std.proofs.ByRecursion.{All-weaker, Decides-by_and}
use Rattle.std.proofs.lemmas.Slice.Eq.{bytes_eq-Decides}
use Rattle.std.proofs.lemmas.Map.Lookups.{exact_bytes}
use Rattle.std.proofs.lemmas.Bool.{and_parts, and_from, leb-true, le-leb, ltb-true, lt-ltb, true≢false}
use Rattle.facet.specs.Paths.{order}
use Rattle.collector.specs.Facets.{count_of, Ascending}
use Rattle.facet_collector.specs.Ascents.{is_strictly_sorted_by}
use Rattle.facet_collector.specs.Entries.{put, sums, sound, fits}
use Rattle.facet_collector.specs.Sums.{SumLaws}
use Rattle.facet_collector.proofs.Ascents.{sorted_from_test, test_from_sorted}

-- ---- the order

pub is_false : (b : Bool) → (b ≡ true → ⊥) → b ≡ false
is_false true n = absurd (n refl)
is_false false n = refl

pub order_self : (f : List ℕ) → order f f ≡ Equal
order_self f = self_is (order f f) (nat_list_cmp_total.antisymm f f)
  where
    self_is : (o : Ordering) → o ≡ ordering_reverse o → o ≡ Equal
    self_is Less e = absurd (true≢false (ap is_lt e))
    self_is Equal e = refl
    self_is Greater e = absurd (true≢false (ap is_gt e))

pub order_turn : (f g : List ℕ) → order f g ≡ Greater → order g f ≡ Less
order_turn f g h = nat_list_cmp_total.antisymm g f ∙ ap ordering_reverse h

-- what stands before another is not the same
pub apart : (f g : List ℕ) → order f g ≡ Less → bytes_eq g f ≡ false
apart f g h = is_false (bytes_eq g f) (λ b. true≢false (ap is_lt (sym h ∙ ap (order f) ((bytes_eq-Decides g f).0 b) ∙ order_self f)))

pub same_self : (f : List ℕ) → bytes_eq f f ≡ true
same_self f = (bytes_eq-Decides f f).1 refl

pub by_cases : {A : Type 0} (P : A → Type 0) (o : Ordering) (a b c : A) → (o ≡ Less → P a) → (o ≡ Equal → P b) → (o ≡ Greater → P c) → P (by_order o a b c)
by_cases P Less a b c f g h = f refl
by_cases P Equal a b c f g h = g refl
by_cases P Greater a b c f g h = h refl

-- ---- what the tests say

abbrev pub ahead : List ℕ × ℕ → List ℕ × ℕ → Ordering
ahead x y = order x.0 y.0

abbrev pub Rises : List (List ℕ × ℕ) → Type 0
Rises es = IsStrictlySortedBy ahead es

-- f stands before all entries
abbrev pub Before : List ℕ → List (List ℕ × ℕ) → Type 0
Before f es = AllByRecursion (λ e. order f e.0 ≡ Less) es

abbrev pub Positive : List (List ℕ × ℕ) → Type 0
Positive es = AllByRecursion (λ e. 0 < e.1) es

abbrev pub Small : List (List ℕ × ℕ) → Type 0
Small es = AllByRecursion (λ e. e.1 ≤ 4294967295) es

passes : {X : Type 0} (p : X → Bool) (P : X → Type 0) → ((x : X) → Decides (p x) (P x)) → (xs : List X) → Decides (list_all p xs) (AllByRecursion P xs)
passes p P each xs = Decides-by_and p P (list_all p) each refl (λ _ _. refl) xs

positive : (es : List (List ℕ × ℕ)) → Decides (list_all (λ e. ltb 0 e.1) es) (Positive es)
positive es = passes (λ e. ltb 0 e.1) (λ e. 0 < e.1) (λ e. (ltb-true 0 e.1, lt-ltb 0 e.1)) es

small : (es : List (List ℕ × ℕ)) → Decides (list_all (λ e. leb e.1 4294967295) es) (Small es)
small es = passes (λ e. leb e.1 4294967295) (λ e. e.1 ≤ 4294967295) (λ e. (leb-true e.1 4294967295, le-leb e.1 4294967295)) es

pub from_sound : (es : List (List ℕ × ℕ)) → sound es ≡ true → Rises es × Positive es
from_sound es h =
    let a = and_parts (is_strictly_sorted_by ahead es) (list_all (λ e. ltb 0 e.1) es) h in
    (sorted_from_test ahead es a.0, (positive es).0 a.1)

pub to_sound : (es : List (List ℕ × ℕ)) → Rises es → Positive es → sound es ≡ true
to_sound es r p =
    and_from (is_strictly_sorted_by ahead es) (list_all (λ e. ltb 0 e.1) es) (test_from_sorted ahead es r) ((positive es).1 p)

pub from_fits : (es : List (List ℕ × ℕ)) → fits es ≡ true → (length es ≤ 128) × Small es
from_fits es h =
    let a = and_parts (leb (length es) 128) (list_all (λ e. leb e.1 4294967295) es) h in
    (leb-true (length es) 128 a.0, (small es).0 a.1)

pub to_fits : (es : List (List ℕ × ℕ)) → length es ≤ 128 → Small es → fits es ≡ true
to_fits es l s = and_from (leb (length es) 128) (list_all (λ e. leb e.1 4294967295) es) (le-leb (length es) 128 l) ((small es).1 s)

-- ---- what stays sound

pub before_further : (f g : List ℕ) (es : List (List ℕ × ℕ)) → order f g ≡ Less → Before g es → Before f es
before_further f g es h = All-weaker (λ e. order g e.0 ≡ Less) (λ e. order f e.0 ≡ Less) (λ e. nat_list_cmp_total.trans f g e.0 h) es

put_before : (g f : List ℕ) (n : ℕ) (es : List (List ℕ × ℕ)) → order g f ≡ Less → Before g es → Before g (put f n es)
put_before g f n [] h a = (h, tt)
put_before g f n (e ∷ es) h a =
    by_cases (Before g) (order f e.0) ((f, n) ∷ e ∷ es) ((e.0, e.1 + n) ∷ es) (e ∷ put f n es)
    (λ _. (h, a)) (λ _. a) (λ _. (a.0, put_before g f n es h a.1))

pub put_rises : (f : List ℕ) (n : ℕ) (es : List (List ℕ × ℕ)) → Rises es → Rises (put f n es)
unfolding IsStrictlySortedBy
put_rises f n [] r = (tt, tt)
put_rises f n (e ∷ es) r =
    by_cases Rises (order f e.0) ((f, n) ∷ e ∷ es) ((e.0, e.1 + n) ∷ es) (e ∷ put f n es)
    (λ h. ((h, before_further f e.0 es h r.0), r)) (λ _. r)
    (λ h. (put_before e.0 f n es (order_turn f e.0 h) r.0, put_rises f n es r.1))

pub put_positive : (f : List ℕ) (n : ℕ) (es : List (List ℕ × ℕ)) → 0 < n → Positive es → Positive (put f n es)
put_positive f n [] h p = (h, tt)
put_positive f n (e ∷ es) h p =
    by_cases Positive (order f e.0) ((f, n) ∷ e ∷ es) ((e.0, e.1 + n) ∷ es) (e ∷ put f n es)
    (λ _. (h, p)) (λ _. (omega (arith, p.0), p.1)) (λ _. (p.0, put_positive f n es h p.1))

pub put_sound : (f : List ℕ) (n : ℕ) (es : List (List ℕ × ℕ)) → 0 < n → sound es ≡ true → sound (put f n es) ≡ true
put_sound f n es h s = let a = from_sound es s in to_sound (put f n es) (put_rises f n es a.0) (put_positive f n es h a.1)

sums_rises : (xs ys : List (List ℕ × ℕ)) → Rises xs → Rises (sums xs ys)
sums_rises xs [] r = r
sums_rises xs (y ∷ ys) r = sums_rises (put y.0 y.1 xs) ys (put_rises y.0 y.1 xs r)

sums_positive : (xs ys : List (List ℕ × ℕ)) → Positive xs → Positive ys → Positive (sums xs ys)
sums_positive xs [] p q = p
sums_positive xs (y ∷ ys) p q = sums_positive (put y.0 y.1 xs) ys (put_positive y.0 y.1 xs q.0 p) q.1

pub sums_sound : (xs ys : List (List ℕ × ℕ)) → sound xs ≡ true → sound ys ≡ true → sound (sums xs ys) ≡ true
sums_sound xs ys a b =
    let x = from_sound xs a in
    to_sound (sums xs ys) (sums_rises xs ys x.0) (sums_positive xs ys x.1 (from_sound ys b).1)

-- ---- counts

pub absent : (es : List (List ℕ × ℕ)) (f : List ℕ) → Before f es → count_of es f ≡ 0
absent [] f a = refl
absent (e ∷ es) f a = ap (λ (b : Bool). cond b e.1 (count_of es f)) (apart f e.0 a.0) ∙ absent es f a.1

pub at_head : (e : List ℕ × ℕ) (es : List (List ℕ × ℕ)) → count_of (e ∷ es) e.0 ≡ e.1
at_head e es = ap (λ (b : Bool). cond b e.1 (count_of es e.0)) (same_self e.0)

-- n at what is counted nowhere else
alone : (b : Bool) (n m : ℕ) → (b ≡ true → m ≡ 0) → cond b n m ≡ m + cond b n 0
alone true n m f = omega (arith, f refl)
alone false n m f = omega arith

here : (b : Bool) (k n m : ℕ) → cond b (k + n) m ≡ cond b k m + cond b n 0
here true k n m = refl
here false k n m = omega arith

there : (b d : Bool) (k n m l : ℕ) → (b ≡ true → d ≡ false) → l ≡ m + cond d n 0 → cond b k l ≡ cond b k m + cond d n 0
there true d k n m l f e = let z : cond d n 0 ≡ 0 = ap (λ (u : Bool). cond u n 0) (f refl) in omega arith
there false d k n m l f e = e

pub count_put : (f : List ℕ) (n : ℕ) (es : List (List ℕ × ℕ)) (q : List ℕ) → Rises es → count_of (put f n es) q ≡ count_of es q + cond (bytes_eq f q) n 0
unfolding IsStrictlySortedBy
count_put f n [] q r = omega arith
count_put f n (e ∷ es) q r =
    by_cases (λ l. count_of l q ≡ count_of (e ∷ es) q + cond (bytes_eq f q) n 0) (order f e.0) ((f, n) ∷ e ∷ es) ((e.0, e.1 + n) ∷ es) (e ∷ put f n es)
    (λ h. alone (bytes_eq f q) n (count_of (e ∷ es) q)
    (λ b. ap (count_of (e ∷ es)) (sym ((bytes_eq-Decides f q).0 b)) ∙ absent (e ∷ es) f (h, before_further f e.0 es h r.0)))
    (λ h. here (bytes_eq e.0 q) e.1 n (count_of es q)
    ∙ ap (λ (g : List ℕ). count_of (e ∷ es) q + cond (bytes_eq g q) n 0) (sym (exact_bytes f e.0 h)))
    (λ h. there (bytes_eq e.0 q) (bytes_eq f q) e.1 n (count_of es q) (count_of (put f n es) q)
    (λ b. ap (bytes_eq f) (sym ((bytes_eq-Decides e.0 q).0 b)) ∙ apart e.0 f (order_turn f e.0 h))
    (count_put f n es q r.1))

counts_add : (xs ys : List (List ℕ × ℕ)) (q : List ℕ) → Rises xs → Rises ys → count_of (sums xs ys) q ≡ count_of xs q + count_of ys q
unfolding IsStrictlySortedBy
counts_add xs [] q r s = omega arith
counts_add xs (y ∷ ys) q r s =
    let e = counts_add (put y.0 y.1 xs) ys q (put_rises y.0 y.1 xs r) s.1 in
    let p = count_put y.0 y.1 xs q r in
    let a = alone (bytes_eq y.0 q) y.1 (count_of ys q) (λ b. ap (count_of ys) (sym ((bytes_eq-Decides y.0 q).0 b)) ∙ absent ys y.0 s.0) in
    omega arith

pub count_sums : (xs ys : List (List ℕ × ℕ)) (q : List ℕ) → sound xs ≡ true → sound ys ≡ true → count_of (sums xs ys) q ≡ count_of xs q + count_of ys q
count_sums xs ys q a b = counts_add xs ys q (from_sound xs a).0 (from_sound ys b).0

-- ---- equal counts

tails : (b : Bool) (k l m n : ℕ) → cond b k m ≡ cond b l n → (b ≡ true → m ≡ n) → m ≡ n
tails true k l m n e f = f refl
tails false k l m n e f = e

lacks : (x : List ℕ × ℕ) (xs ys : List (List ℕ × ℕ)) → 0 < x.1 → Before x.0 ys → count_of (x ∷ xs) x.0 ≡ count_of ys x.0 → ⊥
lacks x xs ys p a h = let e = at_head x xs in let z = absent ys x.0 a in omega arith

one_list : (xs ys : List (List ℕ × ℕ)) → Rises xs → Positive xs → Rises ys → Positive ys → ((q : List ℕ) → count_of xs q ≡ count_of ys q) → xs ≡ ys
unfolding IsStrictlySortedBy
one_list [] [] r p s q h = refl
one_list [] (y ∷ ys) r p s q h = absurd (lacks y ys [] q.0 tt (sym (h y.0)))
one_list (x ∷ xs) [] r p s q h = absurd (lacks x xs [] p.0 tt (h x.0))
one_list (x ∷ xs) (y ∷ ys) r p s q h = by_cases {A = ℕ} (λ _. (x ∷ xs) ≡ (y ∷ ys)) (order x.0 y.0) 0 0 0
    (λ l. absurd (lacks x xs (y ∷ ys) p.0 (l, before_further x.0 y.0 ys l s.0) (h x.0)))
    (λ l.
    let e = exact_bytes x.0 y.0 l in
    let n : x.1 ≡ y.1 = sym (at_head x xs) ∙ h x.0 ∙ ap (count_of (y ∷ ys)) e ∙ at_head y ys in
    let rest = one_list xs ys r.1 p.1 s.1 q.1 (λ g.
    tails (bytes_eq x.0 g) x.1 y.1 (count_of xs g) (count_of ys g)
    (h g ∙ ap (λ (u : List ℕ). cond (bytes_eq u g) y.1 (count_of ys g)) (sym e))
    (λ b. let k = (bytes_eq-Decides x.0 g).0 b in
    ap (count_of xs) (sym k) ∙ absent xs x.0 r.0 ∙ sym (absent ys y.0 s.0) ∙ ap (count_of ys) (sym e ∙ k))) in
    λ i. (e i, n i) ∷ rest i)
    (λ l.
    let k = order_turn x.0 y.0 l in
    absurd (lacks y ys (x ∷ xs) q.0 (k, before_further y.0 x.0 xs k r.0) (sym (h y.0))))

pub same_counts : (xs ys : List (List ℕ × ℕ)) → sound xs ≡ true → sound ys ≡ true → ((q : List ℕ) → count_of xs q ≡ count_of ys q) → xs ≡ ys
same_counts xs ys a b h = let x = from_sound xs a in let y = from_sound ys b in one_list xs ys x.0 x.1 y.0 y.1 h

-- ---- joins

pub sums_comm : (xs ys : List (List ℕ × ℕ)) → sound xs ≡ true → sound ys ≡ true → sums xs ys ≡ sums ys xs
sums_comm xs ys a b =
    same_counts (sums xs ys) (sums ys xs) (sums_sound xs ys a b) (sums_sound ys xs b a) (λ q. omega (arith, count_sums xs ys q a b, count_sums ys xs q b a))

pub sums_assoc : (xs ys zs : List (List ℕ × ℕ)) → sound xs ≡ true → sound ys ≡ true → sound zs ≡ true → sums (sums xs ys) zs ≡ sums xs (sums ys zs)
sums_assoc xs ys zs a b c =
    let p = sums_sound xs ys a b in
    let q = sums_sound ys zs b c in
    same_counts (sums (sums xs ys) zs) (sums xs (sums ys zs)) (sums_sound (sums xs ys) zs p c) (sums_sound xs (sums ys zs) a q)
    (λ f. omega (arith, count_sums xs ys f a b, count_sums ys zs f b c, count_sums (sums xs ys) zs f p c, count_sums xs (sums ys zs) f a q))

pub sums_neutral : (xs : List (List ℕ × ℕ)) → sound xs ≡ true → sums [] xs ≡ xs
sums_neutral xs a = sums_comm [] xs refl a

-- ---- what fits

put_longer : (f : List ℕ) (n : ℕ) (es : List (List ℕ × ℕ)) → length es ≤ length (put f n es)
put_longer f n [] = omega arith
put_longer f n (e ∷ es) =
    by_cases (λ l. length (e ∷ es) ≤ length l) (order f e.0) ((f, n) ∷ e ∷ es) ((e.0, e.1 + n) ∷ es) (e ∷ put f n es)
    (λ _. omega arith) (λ _. omega arith) (λ _. omega (arith, put_longer f n es))

put_small : (f : List ℕ) (n : ℕ) (es : List (List ℕ × ℕ)) → Small (put f n es) → Small es
put_small f n [] = λ _. tt
put_small f n (e ∷ es) =
    by_cases (λ l. Small l → Small (e ∷ es)) (order f e.0) ((f, n) ∷ e ∷ es) ((e.0, e.1 + n) ∷ es) (e ∷ put f n es)
    (λ _ s. s.1) (λ _ s. (omega (arith, s.0), s.1)) (λ _ s. (s.0, put_small f n es s.1))

pub put_fits : (f : List ℕ) (n : ℕ) (es : List (List ℕ × ℕ)) → fits (put f n es) ≡ true → fits es ≡ true
put_fits f n es h = let a = from_fits (put f n es) h in to_fits es (omega (arith, a.0, put_longer f n es)) (put_small f n es a.1)

pub sums_fits : (xs ys : List (List ℕ × ℕ)) → fits (sums xs ys) ≡ true → fits xs ≡ true
sums_fits xs [] h = h
sums_fits xs (y ∷ ys) h = put_fits y.0 y.1 xs (sums_fits (put y.0 y.1 xs) ys h)

-- ---- the laws

pub sum_laws : SumLaws
sum_laws = record {
  sounds = sums_sound;
  counts = count_sums;
  same = same_counts;
  assoc = sums_assoc;
  comm = sums_comm;
  neutral = sums_neutral;
  part_fits = sums_fits;
}

rising : (es : List (List ℕ × ℕ)) → Rises es → Ascending (map (λ (e : List ℕ × ℕ). e.0) es)
unfolding IsStrictlySortedBy
rising [] r = tt
rising (e ∷ []) r = tt
rising (e ∷ g ∷ es) r = (r.0.0, rising (g ∷ es) r.1)

-- the facets of sound entries ascend
pub sound_ascending : (es : List (List ℕ × ℕ)) → sound es ≡ true → Ascending (map (λ (e : List ℕ × ℕ). e.0) es)
sound_ascending es s = rising es (from_sound es s).0
