-- Facets as paths: what "above" and "child" say of bytes, and the laws that follow. Assumes nothing.
use Rattle.std.proofs.Common.{◌≡◌, ℕ, suc, ◌+◌, ◌<◌, ◌≤◌, Bool, true, false, cond, ◌&&◌, eqb, ◌⊎◌, List, [], ◌∷◌, ◌++◌, length, get_or, take, drop, Ordering, Less, Equal, Greater, sym, refl, ap, ◌∙◌, subst, inl, inr, ⊎_elim, append_assoc, suc-add, zero-add, arith, length-append}
use Rattle.std.proofs.lemmas.List.{drop_more}
use Rattle.std.proofs.lemmas.Bool.{eqb-true, eq-eqb, cases_lt, cases_order, and_parts, and_from, or_cases, or_left, or_right, both_ways}
use Rattle.std.proofs.lemmas.Slice.Eq.{bytes_eq-Decides}
use Rattle.std.proofs.lemmas.Bool.Decides.{nat_tests}
use Rattle.std.proofs.lemmas.List.Recursion.{is_count_by}
use Rattle.std.specs.List.{count_by}
use Rattle.std.specs.Ordering.{ordering_then, nat_cmp}
use Rattle.std.specs.Str.{bytes_eq}
use Rattle.facet.specs.Laws.{Prefix, OnTheWay, NoWay}
use Rattle.facet.specs.Pieces.{grow, split, first_piece, join}
use Rattle.facet.specs.Paths.{steps, depth, first_step, begins, above, at_or_below, child, child_offset, order}

-- ---- prefixes

begins_rest : (p f : List ℕ) → begins p f ≡ true → (r : List ℕ) × (f ≡ p ++ r)
begins_rest [] f h = (f, refl)
begins_rest (a ∷ p) [] h = absurd (let z : ◌≡◌ {A = ℕ} 0 1 = cc in omega arith)
begins_rest (a ∷ p) (b ∷ f) h =
    let t = and_parts (eqb a b) (begins p f) h in
    let u = begins_rest p f t.1 in
    (u.0, λ i. sym (eqb-true a b t.0) i ∷ u.1 i)

begins_itself : (p r : List ℕ) → begins p (p ++ r) ≡ true
begins_itself [] r = refl
begins_itself (a ∷ p) r = and_from (eqb a a) (begins p (p ++ r)) (eq-eqb a a refl) (begins_itself p r)

-- ---- above

-- what stands below a facet that is not the root
pub below_rest : (a : ℕ) (p f : List ℕ) → above (a ∷ p) f ≡ true → (r : List ℕ) × (f ≡ (a ∷ p) ++ 0 ∷ r)
below_rest a p f h =
    let u = begins_rest ((a ∷ p) ++ 0 ∷ []) f h in
    (u.0, u.1 ∙ append_assoc (a ∷ p) (0 ∷ []) u.0)

pub above_rest : (a : ℕ) (p r : List ℕ) → above (a ∷ p) ((a ∷ p) ++ 0 ∷ r) ≡ true
above_rest a p r = subst (λ (f : List ℕ). begins ((a ∷ p) ++ 0 ∷ []) f ≡ true) (append_assoc (a ∷ p) (0 ∷ []) r) (begins_itself ((a ∷ p) ++ 0 ∷ []) r)

not_so : (t : Bool) → (t ≡ true → ⊥) → t ≡ false
not_so true n = absurd (n refl)
not_so false n = refl

pub not_above_shorter : (p f : List ℕ) → length f ≤ length p → above p f ≡ false
not_above_shorter [] [] l = refl
not_above_shorter [] (b ∷ f) l = absurd (omega arith)
not_above_shorter (a ∷ p) f l = not_so (above (a ∷ p) f) (λ h.
    let u = below_rest a p f h in
    let e = ap length u.1 ∙ length-append (a ∷ p) (0 ∷ u.0) in
    omega arith)

pub root_above : (p f : List ℕ) → length p ≡ 0 → length p < length f → above p f ≡ true
root_above [] [] z l = absurd (omega arith)
root_above [] (b ∷ f) z l = refl
root_above (a ∷ p) f z l = absurd (omega arith)

begins_at : (p : List ℕ) (b : ℕ) (r : List ℕ) → begins (p ++ 0 ∷ []) (p ++ b ∷ r) ≡ eqb b 0
begins_at [] b r = grind (arith, nat_tests)
begins_at (a ∷ p) b r = ap (λ (t : Bool). t && begins (p ++ 0 ∷ []) (p ++ b ∷ r)) (eq-eqb a a refl) ∙ begins_at p b r

-- of what begins with p, the next byte decides
pub above_begun : (p f : List ℕ) → (length p ≡ 0 → ⊥) → length p < length f → f ≡ p ++ drop (length p) f → above p f ≡ eqb (get_or f (length p) 0) 0
above_begun [] f z l e = absurd (z refl)
above_begun (a ∷ p) f z l e =
    ap (above (a ∷ p)) (e ∙ ap (λ (x : List ℕ). (a ∷ p) ++ x) (drop_more f (length (a ∷ p)) 0 l)) ∙ begins_at (a ∷ p) (get_or f (length (a ∷ p)) 0) _

pub not_above_other : (p f : List ℕ) → (length p ≡ 0 → ⊥) → ((r : List ℕ) → f ≡ p ++ r → ⊥) → above p f ≡ false
not_above_other [] f z n = absurd (z refl)
not_above_other (a ∷ p) f z n = not_so (above (a ∷ p) f) (λ h. let u = below_rest a p f h in n (0 ∷ u.0) u.1)

not_above_itself : (f : List ℕ) → above f f ≡ false
not_above_itself f = not_above_shorter f f (omega arith)

above_chain : (p q f : List ℕ) → above p q ≡ true → above q f ≡ true → above p f ≡ true
above_chain [] q [] h g = ends q g
  where
    ends : (q : List ℕ) → above q [] ≡ true → above [] [] ≡ true
    ends [] g = g
    ends (b ∷ q) g = g
above_chain [] q (c ∷ f) h g = refl
above_chain (a ∷ p) [] f h g = absurd (let z : ◌≡◌ {A = ℕ} 0 1 = cc in omega arith)
above_chain (a ∷ p) (b ∷ q) f h g =
    let u = below_rest a p (b ∷ q) h in
    let v = below_rest b q f g in
    subst (λ (x : List ℕ). above (a ∷ p) x ≡ true)
    (sym (v.1 ∙ ap (λ (x : List ℕ). x ++ 0 ∷ v.0) u.1 ∙ append_assoc (a ∷ p) (0 ∷ u.0) (0 ∷ v.0)))
    (above_rest a p (u.0 ++ 0 ∷ v.0))

-- ---- the order

rank_more : (x y : ℕ) → y < x → nat_cmp x y ≡ Greater
rank_more x y h = grind (arith, nat_tests)

-- what stands between x and y, where these are equal, is equal to both
between : (x b y : ℕ) (k m : Ordering) → x ≡ y → (ordering_then (nat_cmp x b) k ≡ Greater → ⊥) → (ordering_then (nat_cmp b y) m ≡ Greater → ⊥) → x ≡ b
between x b y k m e l h =
    ⊎_elim (λ q. q) (λ o. absurd (⊎_elim
    (λ (q : x < b). h (ap (λ (t : Ordering). ordering_then t m) (rank_more b y (omega arith))))
    (λ (q : b < x). l (ap (λ (t : Ordering). ordering_then t k) (rank_more x b q))) o))
    (cases_order x b)

-- behind an equal byte the rest decides
rest_decides : (x b : ℕ) (k : Ordering) → x ≡ b → ordering_then (nat_cmp x b) k ≡ k
rest_decides x b k e = ap (λ (t : Ordering). ordering_then t k) (rank_same x b e)
  where
    rank_same : (x b : ℕ) → x ≡ b → nat_cmp x b ≡ Equal
    rank_same x b e = grind (arith, nat_tests)

not_more : (x b : ℕ) (k : Ordering) → x ≡ b → (ordering_then (nat_cmp x b) k ≡ Greater → ⊥) → k ≡ Greater → ⊥
not_more x b k e n g = n (rest_decides x b k e ∙ g)

-- what stands between p and something below it begins with p, and then byte 00 or nothing
nothing_foreign : (p r g : List ℕ) → (order p g ≡ Greater → ⊥) → (order g (p ++ 0 ∷ r) ≡ Greater → ⊥) → (g ≡ p) ⊎ (begins (p ++ 0 ∷ []) g ≡ true)
nothing_foreign [] r [] l h = inl refl
nothing_foreign [] r (b ∷ g) l h =
    let e : 0 ≡ b = ⊎_elim (λ (q : 0 < b). absurd (h (ap (λ (t : Ordering). ordering_then t (order g r)) (rank_more b 0 q)))) (λ (q : b ≤ 0). omega arith) (cases_lt 0 b) in
    inr (and_from (eqb 0 b) true (eq-eqb 0 b e) refl)
nothing_foreign (a ∷ p) r [] l h = absurd (l refl)
nothing_foreign (a ∷ p) r (b ∷ g) l h =
    let e : a ≡ b = between a b a (order p g) (order g (p ++ 0 ∷ r)) refl l h in
    ⊎_elim (λ (q : g ≡ p). inl (λ i. sym e i ∷ q i)) (λ (q : begins (p ++ 0 ∷ []) g ≡ true). inr (and_from (eqb a b) (begins (p ++ 0 ∷ []) g) (eq-eqb a b e) q))
    (nothing_foreign p r g (not_more a b (order p g) e l) (not_more b a (order g (p ++ 0 ∷ r)) (sym e) h))

stand_together : (p f : List ℕ) → above p f ≡ true → (g : List ℕ) → (order p g ≡ Greater → ⊥) → (order g f ≡ Greater → ⊥) → at_or_below g p ≡ true
stand_together [] f h [] l k = refl
stand_together [] f h (b ∷ g) l k = refl
stand_together (a ∷ p) f h g l k =
    let u = below_rest a p f h in
    ⊎_elim (λ (e : g ≡ a ∷ p). or_left (bytes_eq g (a ∷ p)) (above (a ∷ p) g) (subst (λ (x : List ℕ). bytes_eq x (a ∷ p) ≡ true) (sym e) ((bytes_eq-Decides (a ∷ p) (a ∷ p)).1 refl)))
    (λ (q : begins ((a ∷ p) ++ 0 ∷ []) g ≡ true). or_right (bytes_eq g (a ∷ p)) (above (a ∷ p) g) q)
    (nothing_foreign (a ∷ p) u.0 g l (λ e. k (ap (order g) u.1 ∙ e)))

above_before : (p f : List ℕ) → above p f ≡ true → order p f ≡ Less
above_before [] [] h = absurd (let z : ◌≡◌ {A = ℕ} 0 1 = cc in omega arith)
above_before [] (b ∷ f) h = refl
above_before (a ∷ p) f h = let u = below_rest a p f h in ap (order (a ∷ p)) u.1 ∙ prefix_before (a ∷ p) 0 u.0
  where
    prefix_before : (p : List ℕ) (b : ℕ) (r : List ℕ) → order p (p ++ b ∷ r) ≡ Less
    prefix_before [] b r = refl
    prefix_before (a ∷ p) b r = rest_decides a a (order p (p ++ b ∷ r)) refl ∙ prefix_before p b r

pub prefix : (p f : List ℕ) (r : Bool) → r ≡ above p f → Prefix p f r
prefix p f r e = record {
  value = e;
  strict = record { irreflexive = not_above_itself; transitive = above_chain };
  before = λ t. above_before p f (sym e ∙ t);
  together = λ t. stand_together p f (sym e ∙ t);
}

-- ---- steps

-- how many bytes 00 there are
abbrev pub zeros : List ℕ → ℕ
zeros [] = 0
zeros (b ∷ bs) = cond (eqb b 0) 1 0 + zeros bs

zeros_is : (f : List ℕ) → zeros f ≡ count_by (λ b. eqb b 0) f
zeros_is = is_count_by zeros (λ b. eqb b 0) refl (λ b bs. adds (eqb b 0) (zeros bs))
  where
    adds : (t : Bool) (n : ℕ) → cond t 1 0 + n ≡ cond t (1 + n) n
    adds true n = refl
    adds false n = omega arith

length_grow : (b : ℕ) (ps : List (List ℕ)) → 0 < length ps → length (grow b ps) ≡ length ps
length_grow b [] h = absurd (omega arith)
length_grow b (p ∷ ps) h = refl

-- there is a piece at least
pub split_some : (sep : ℕ) (xs : List ℕ) → 0 < length (split sep xs)
split_some sep [] = omega arith
split_some sep (b ∷ xs) = cut (eqb b sep) (split sep xs) (split_some sep xs)
  where
    cut : (t : Bool) (ps : List (List ℕ)) → 0 < length ps → 0 < length (cond t ([] ∷ ps) (grow b ps))
    cut true ps h = omega arith
    cut false [] h = omega arith
    cut false (p ∷ ps) h = omega arith

pub length_split : (f : List ℕ) → length (split 0 f) ≡ suc (zeros f)
length_split [] = refl
length_split (b ∷ bs) =
    let h = length_split bs in
    let g = length_grow b (split 0 bs) (split_some 0 bs) in
    cut (eqb b 0) h (g ∙ h)
  where
    cut : (t : Bool) → length (split 0 bs) ≡ suc (zeros bs) → length (grow b (split 0 bs)) ≡ suc (zeros bs) → length (cond t ([] ∷ split 0 bs) (grow b (split 0 bs))) ≡ suc (cond t 1 0 + zeros bs)
    cut true h g = omega arith
    cut false h g = omega arith

pub zeros_append : (f g : List ℕ) → zeros (f ++ g) ≡ zeros f + zeros g
zeros_append [] g = omega arith
zeros_append (b ∷ f) g = let h = zeros_append f g in omega arith

depth_cons : (b : ℕ) (bs : List ℕ) → depth (b ∷ bs) ≡ suc (zeros (b ∷ bs))
depth_cons b bs = length_split (b ∷ bs)

pub depth_is : (f : List ℕ) → (length f ≡ 0 → ⊥) → depth f ≡ count_by (λ b. eqb b 0) f + 1
depth_is [] n = absurd (n refl)
depth_is (b ∷ f) n = depth_cons b f ∙ ap suc (zeros_is (b ∷ f)) ∙ omega arith

zeros_first : (s : List ℕ) → zeros (first_step s) ≡ 0
zeros_first [] = refl
zeros_first (b ∷ s) = cut (eqb b 0) refl (zeros_first s)
  where
    cut : (t : Bool) → eqb b 0 ≡ t → zeros (first_step s) ≡ 0 → zeros (cond t [] (b ∷ first_step s)) ≡ 0
    cut true e h = refl
    cut false e h = let k : cond {A = ℕ} (eqb b 0) 1 0 ≡ 0 = ap (λ (t : Bool). cond {A = ℕ} t 1 0) e in omega arith

-- a step is followed by nothing or by byte 00
first_rest : (s : List ℕ) → (s ≡ first_step s) ⊎ ((r : List ℕ) × (s ≡ first_step s ++ 0 ∷ r))
first_rest [] = inl refl
first_rest (b ∷ s) = cut (eqb b 0) refl (first_rest s)
  where
    cut : (t : Bool) → eqb b 0 ≡ t → (s ≡ first_step s) ⊎ ((r : List ℕ) × (s ≡ first_step s ++ 0 ∷ r)) → (b ∷ s ≡ cond t [] (b ∷ first_step s)) ⊎ ((r : List ℕ) × (b ∷ s ≡ cond t [] (b ∷ first_step s) ++ 0 ∷ r))
    cut true e u = inr (s, ap (λ (x : ℕ). x ∷ s) (eqb-true b 0 e))
    cut false e (inl h) = inl (ap (λ (x : List ℕ). b ∷ x) h)
    cut false e (inr h) = inr (h.0, ap (λ (x : List ℕ). b ∷ x) h.1)

-- a step without byte 00 is the first, whatever follows the separator
first_is : (s r : List ℕ) → zeros s ≡ 0 → (first_step s ≡ s) × (first_step (s ++ 0 ∷ r) ≡ s)
first_is [] r h = (refl, refl)
first_is (b ∷ s) r h =
    cut (eqb b 0) refl h (first_is s r)
  where
    cut : (t : Bool) → eqb b 0 ≡ t → cond (eqb b 0) 1 0 + zeros s ≡ 0 → (zeros s ≡ 0 → (first_step s ≡ s) × (first_step (s ++ 0 ∷ r) ≡ s)) → (cond t [] (b ∷ first_step s) ≡ b ∷ s) × (cond t [] (b ∷ first_step (s ++ 0 ∷ r)) ≡ b ∷ s)
    cut true e h f = let k : cond {A = ℕ} (eqb b 0) 1 0 ≡ 1 = ap (λ (t : Bool). cond {A = ℕ} t 1 0) e in absurd (omega arith)
    cut false e h f = let u = f (omega arith) in (ap (λ (x : List ℕ). b ∷ x) u.0, ap (λ (x : List ℕ). b ∷ x) u.1)

-- ---- the child on the way

-- what leads from p towards f: the first step of f behind p
abbrev pub way : List ℕ → List ℕ → List ℕ
way [] f = first_step f
way (a ∷ p) f = (a ∷ p) ++ 0 ∷ first_step (drop (suc (length (a ∷ p))) f)

behind : (p r : List ℕ) → drop (suc (length p)) (p ++ 0 ∷ r) ≡ r
behind [] r = refl
behind (a ∷ p) r = behind p r

-- a child of p that f is at or below is the way
child_is_way : (p f d : List ℕ) → child p d ≡ true → at_or_below f d ≡ true → d ≡ way p f
child_is_way [] f [] c l = absurd (let z : ◌≡◌ {A = ℕ} 0 1 = cc in omega arith)
child_is_way [] f (b ∷ d) c l =
    let e = eqb-true (depth (b ∷ d)) 1 (and_parts true (eqb (depth (b ∷ d)) 1) c).1 in
    let z : zeros (b ∷ d) ≡ 0 = let h = depth_cons b d in omega arith in
    ⊎_elim (λ (h : bytes_eq f (b ∷ d) ≡ true). sym (first_is (b ∷ d) [] z).0 ∙ ap first_step (sym ((bytes_eq-Decides f (b ∷ d)).0 h)))
    (λ (h : above (b ∷ d) f ≡ true). let u = below_rest b d f h in sym (first_is (b ∷ d) u.0 z).1 ∙ ap first_step (sym u.1))
    (or_cases (bytes_eq f (b ∷ d)) (above (b ∷ d) f) l)
child_is_way (a ∷ p) f d c l =
    let t = and_parts (above (a ∷ p) d) (eqb (depth d) (suc (depth (a ∷ p)))) c in
    let u = below_rest a p d t.0 in
    let s = u.0 in
    let e = ap depth (sym u.1) ∙ eqb-true (depth d) (suc (depth (a ∷ p))) t.1 in
    let z : zeros s ≡ 0 = let h = depth_cons a (p ++ 0 ∷ s) in let k = depth_cons a p in let m = zeros_append (a ∷ p) (0 ∷ s) in omega arith in
    let put : (x : List ℕ) → first_step x ≡ s → d ≡ (a ∷ p) ++ 0 ∷ first_step x = λ x q. u.1 ∙ ap (λ (y : List ℕ). (a ∷ p) ++ 0 ∷ y) (sym q) in
    ⊎_elim (λ (h : bytes_eq f d ≡ true).
    put (drop (suc (length (a ∷ p))) f) (ap first_step (ap (drop (suc (length (a ∷ p)))) ((bytes_eq-Decides f d).0 h ∙ u.1) ∙ behind (a ∷ p) s) ∙ (first_is s [] z).0))
    (λ (h : above d f ≡ true).
    let v = below_rest a (p ++ 0 ∷ s) f (subst (λ (x : List ℕ). above x f ≡ true) u.1 h) in
    put (drop (suc (length (a ∷ p))) f) (ap first_step (ap (drop (suc (length (a ∷ p)))) (v.1 ∙ append_assoc (a ∷ p) (0 ∷ s) (0 ∷ v.0)) ∙ behind (a ∷ p) (s ++ 0 ∷ v.0)) ∙ (first_is s v.0 z).1))
    (or_cases (bytes_eq f d) (above d f) l)

-- what f is at or below, below p, has p above f
leads_below : (p f d : List ℕ) → above p d ≡ true → at_or_below f d ≡ true → above p f ≡ true
leads_below p f d h l =
    ⊎_elim (λ (q : bytes_eq f d ≡ true). subst (λ (x : List ℕ). above p x ≡ true) (sym ((bytes_eq-Decides f d).0 q)) h)
    (λ (q : above d f ≡ true). above_chain p d f h q)
    (or_cases (bytes_eq f d) (above d f) l)

at_or_below_from : (f c : List ℕ) → (f ≡ c) ⊎ ((r : List ℕ) × (f ≡ c ++ 0 ∷ r)) → 0 < length c → at_or_below f c ≡ true
at_or_below_from f c (inl h) z = or_left (bytes_eq f c) (above c f) (subst (λ (x : List ℕ). bytes_eq x c ≡ true) (sym h) ((bytes_eq-Decides c c).1 refl))
at_or_below_from f [] (inr h) z = absurd (omega arith)
at_or_below_from f (b ∷ c) (inr h) z = or_right (bytes_eq f (b ∷ c)) (above (b ∷ c) f) (subst (λ (x : List ℕ). above (b ∷ c) x ≡ true) (sym h.1) (above_rest b c h.0))

-- where p is above f, the way is a child that f is at or below, unless it is empty
way_leads : (p f : List ℕ) → above p f ≡ true → 0 < length (way p f) → (child p (way p f) ≡ true) × (at_or_below f (way p f) ≡ true)
way_leads [] f h z = (first_child (first_step f) z (zeros_first f), at_or_below_from f (first_step f) (first_rest f) z)
  where
    first_child : (c : List ℕ) → 0 < length c → zeros c ≡ 0 → child [] c ≡ true
    first_child [] z h = absurd (omega arith)
    first_child (b ∷ c) z h = eq-eqb (depth (b ∷ c)) 1 (let k = depth_cons b c in omega arith)
way_leads (a ∷ p) f h z =
    let u = below_rest a p f h in
    let e : drop (suc (length (a ∷ p))) f ≡ u.0 = ap (drop (suc (length (a ∷ p)))) u.1 ∙ behind (a ∷ p) u.0 in
    let s = first_step u.0 in
    subst (λ (x : List ℕ). (child (a ∷ p) ((a ∷ p) ++ 0 ∷ first_step x) ≡ true) × (at_or_below f ((a ∷ p) ++ 0 ∷ first_step x) ≡ true)) (sym e) (
      and_from (above (a ∷ p) ((a ∷ p) ++ 0 ∷ s)) (eqb (depth ((a ∷ p) ++ 0 ∷ s)) (suc (depth (a ∷ p)))) (above_rest a p s)
          (eq-eqb (depth ((a ∷ p) ++ 0 ∷ s)) (suc (depth (a ∷ p)))
          (let h = depth_cons a (p ++ 0 ∷ s) in let k = depth_cons a p in let m = zeros_append (a ∷ p) (0 ∷ s) in let n = zeros_first u.0 in omega arith)),
      at_or_below_from f ((a ∷ p) ++ 0 ∷ s)
          (⊎_elim (λ (q : u.0 ≡ s). inl (u.1 ∙ ap (λ (x : List ℕ). (a ∷ p) ++ 0 ∷ x) q))
          (λ (q : (r : List ℕ) × (u.0 ≡ s ++ 0 ∷ r)). inr (q.0, u.1 ∙ ap (λ (x : List ℕ). (a ∷ p) ++ 0 ∷ x) q.1 ∙ sym (append_assoc (a ∷ p) (0 ∷ s) (0 ∷ q.0))))
          (first_rest u.0))
          (simp length-append (omega arith)),
    )

pub length_piece : (sep : ℕ) (f : List ℕ) → length (first_piece sep f) ≤ length f
length_piece sep [] = omega arith
length_piece sep (b ∷ f) = cut (eqb b sep) (length_piece sep f)
  where
    cut : (t : Bool) → length (first_piece sep f) ≤ length f → length (cond t [] (b ∷ first_piece sep f)) ≤ length (b ∷ f)
    cut true h = omega arith
    cut false h = omega arith

first_front : (f : List ℕ) → take (length (first_step f)) f ≡ first_step f
first_front [] = refl
first_front (b ∷ f) = cut (eqb b 0) (first_front f)
  where
    cut : (t : Bool) → take (length (first_step f)) f ≡ first_step f → take (length (cond t [] (b ∷ first_step f))) (b ∷ f) ≡ cond t [] (b ∷ first_step f)
    cut true h = refl
    cut false h = ap (λ (x : List ℕ). b ∷ x) h

behind_take : (p r : List ℕ) (n : ℕ) → take (suc (length p) + n) (p ++ 0 ∷ r) ≡ p ++ 0 ∷ take n r
behind_take [] r n = rw suc-add (rw zero-add refl)
behind_take (a ∷ p) r n = rw suc-add (ap (λ (x : List ℕ). a ∷ x) (behind_take p r n))

-- the way ends where its last step does
pub way_front : (p f : List ℕ) → above p f ≡ true → (child_offset p ≤ length f) × (take (child_offset p + length (first_step (drop (child_offset p) f))) f ≡ way p f)
way_front [] f h = (omega arith, rw zero-add (first_front f))
way_front (a ∷ p) f h =
    let u = below_rest a p f h in
    let e : drop (suc (length (a ∷ p))) f ≡ u.0 = ap (drop (suc (length (a ∷ p)))) u.1 ∙ behind (a ∷ p) u.0 in
    let n = length (first_step u.0) in (
      let l = ap length u.1 ∙ length-append (a ∷ p) (0 ∷ u.0) in omega arith,
      (λ i. take (suc (length (a ∷ p)) + length (first_step (e i))) (u.1 i))
          ∙ behind_take (a ∷ p) u.0 n
          ∙ ap (λ (x : List ℕ). (a ∷ p) ++ 0 ∷ x) (first_front u.0 ∙ ap first_step (sym e)),
    )

-- f is what it is at or below, or that and then byte 00
pub at_or_below_rest : (f c : List ℕ) → 0 < length c → at_or_below f c ≡ true → (f ≡ c) ⊎ ((r : List ℕ) × (f ≡ c ++ 0 ∷ r))
at_or_below_rest f [] z l = absurd (omega arith)
at_or_below_rest f (b ∷ c) z l =
    ⊎_elim (λ (h : bytes_eq f (b ∷ c) ≡ true). inl ((bytes_eq-Decides f (b ∷ c)).0 h)) (λ (h : above (b ∷ c) f ≡ true). inr (below_rest b c f h))
    (or_cases (bytes_eq f (b ∷ c)) (above (b ∷ c) f) l)

pub no_way_apart : (p f : List ℕ) → above p f ≡ false → NoWay p f
no_way_apart p f n d c l = both_ways (above p f) n (leads_below p f d (and_parts (above p d) (eqb (depth d) (suc (depth p))) c).0 l)

pub no_way_empty : (p f : List ℕ) → way p f ≡ [] → NoWay p f
no_way_empty p f e d c l =
    both_ways (above p []) (not_above_shorter p [] (omega arith))
    (subst (λ (x : List ℕ). above p x ≡ true) (child_is_way p f d c l ∙ e) (and_parts (above p d) (eqb (depth d) (suc (depth p))) c).0)

pub on_the_way : (p f : List ℕ) → above p f ≡ true → 0 < length (way p f) → OnTheWay p f (way p f)
on_the_way p f h z = let w = way_leads p f h z in record { is_child = w.0; leads = w.1; only = child_is_way p f }

-- ---- steps joined

join_grow : (b : ℕ) (ps : List (List ℕ)) → 0 < length ps → join 0 (grow b ps) ≡ b ∷ join 0 ps
join_grow b [] h = absurd (omega arith)
join_grow b (p ∷ []) h = refl
join_grow b (p ∷ q ∷ ps) h = refl

join_apart : (ps : List (List ℕ)) → 0 < length ps → join 0 ([] ∷ ps) ≡ 0 ∷ join 0 ps
join_apart [] h = absurd (omega arith)
join_apart (p ∷ ps) h = refl

join_split : (f : List ℕ) → join 0 (split 0 f) ≡ f
join_split [] = refl
join_split (b ∷ f) = cut (eqb b 0) refl (split_some 0 f) (join_split f)
  where
    cut : (t : Bool) → eqb b 0 ≡ t → 0 < length (split 0 f) → join 0 (split 0 f) ≡ f → join 0 (cond t ([] ∷ split 0 f) (grow b (split 0 f))) ≡ b ∷ f
    cut true e h q = join_apart (split 0 f) h ∙ (λ i. sym (eqb-true b 0 e) i ∷ q i)
    cut false e h q = join_grow b (split 0 f) h ∙ ap (λ (x : List ℕ). b ∷ x) q

pub steps_join : (f : List ℕ) → join 0 (steps f) ≡ f
steps_join [] = refl
steps_join (b ∷ f) = join_split (b ∷ f)
