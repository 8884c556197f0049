-- Terms collapsed to children, one by one. Assumes nothing.
use Rattle.std.proofs.Common.{◌≡◌, ℕ, zero, suc, ◌+◌, ◌-◌, ◌<◌, ◌≤◌, true, false, List, [], ◌∷◌, ◌++◌, length, get_or, take, drop, set, Some, None, Option, Ordering, Less, Equal, Greater, sym, refl, ap, ◌∙◌, subst, ⊎_elim, append_assoc, append-nil, arith, length-append, below_more}
use Rattle.facet.proofs.Paths.{prefix}
use Rattle.facet.specs.Paths.{above, at_or_below, depth, order}
use Rattle.std.proofs.lemmas.List.{nil_from_length, get_or-set_same, get_or-set_other, get_or-take, length-set, length-take-le, take_all, take-append-drop}
use Rattle.std.proofs.lemmas.Slice.Eq.{bytes_eq-Decides}
use Rattle.std.proofs.lemmas.Map.Lookups.{exact_bytes}
use Rattle.std.proofs.lemmas.Bool.{both_ways, cases_Bool, cases_lt, or_right}
use Rattle.std.specs.Str.{bytes_eq}
use Rattle.facet_collector.specs.Requests.{Sought, Walked, Collapses}
use Rattle.facet_collector.specs.Children.{requestable, request_of, child_toward, towards, leads, insert_some, children, member, first_below, nothing, collapsed_to, collapsed_by, collapsed, place_in, last_of, slot_of}
use Rattle.facet_collector.proofs.Lasts.{never_less, Front, member_last, some_there, front_all, some_last, some_new, some_none, last_new, place_last, place_new, place_kept, children_more, children_longer, front_not_member, led_place, led_at}
use Rattle.facet_collector.proofs.Paths.{above_chain, at_or_below_cases, less_greater, equal_greater, flipped, leads_sound, leads_is}
use Rattle.facet_collector.proofs.Sets.{Climbing, led, no_empty, order_trans, children_climb, member_children}
use Rattle.facet_collector.proofs.Sums.{is_false, order_self}

-- ---- the order of terms and of their children

-- what is at or below c does not stand before it
pub not_before : (f c : List ℕ) → at_or_below f c ≡ true → order c f ≡ Greater → ⊥
not_before f c h g =
    ⊎_elim (λ (e : f ≡ c). equal_greater (ap (order c) e ∙ order_self c) g) (λ (e : above c f ≡ true). less_greater ((prefix c f (above c f) refl).before e) g) (at_or_below_cases f c h)

-- neither behind the second nor the second behind the third
pub not_behind : (a b c : List ℕ) → (order a b ≡ Greater → ⊥) → order b c ≡ Less → order a c ≡ Less
not_behind a b c h k = go (order a b) refl
  where
    go : (o : Ordering) → order a b ≡ o → order a c ≡ Less
    go Less e = order_trans a b c e k
    go Equal e = subst (λ (x : List ℕ). order x c ≡ Less) (sym (exact_bytes a b e)) k
    go Greater e = absurd (h e)

pub below_both : (f c b : List ℕ) → at_or_below f c ≡ true → above b c ≡ true → at_or_below f b ≡ true
below_both f c b h k =
    ⊎_elim (λ (e : f ≡ c). or_right _ _ (subst (λ (x : List ℕ). above b x ≡ true) (sym e) k)) (λ (e : above c f ≡ true). or_right _ _ (above_chain b c f k e)) (at_or_below_cases f c h)

-- a later term leads to the same child or to a later one
module _ (rs : List (List ℕ)) (ok : requestable rs ≡ true) (s t : List ℕ) (l : order s t ≡ Less) (y : 0 < length (leads rs s)) (z : 0 < length (leads rs t)) (n : leads rs s ≡ leads rs t → ⊥) where
  -- were it earlier, then s would lead to it too
  earlier : above (leads rs t) (leads rs s) ≡ true → ⊥
  earlier h = n (leads_is rs s (leads rs t) ok (leads_sound rs t z).0 (below_both s (leads rs s) (leads rs t) (leads_sound rs s y).1 h))

  before : order (leads rs s) t ≡ Less
  before = not_behind (leads rs s) s t (not_before s (leads rs s) (leads_sound rs s y).1) l

  not_earlier : order (leads rs t) (leads rs s) ≡ Less → ⊥
  not_earlier g =
      ⊎_elim (λ (k : t ≡ leads rs t). never_less (leads rs s) (order_trans (leads rs s) (leads rs t) (leads rs s) (subst (λ (x : List ℕ). order (leads rs s) x ≡ Less) k before) g))
      (λ (k : above (leads rs t) t ≡ true).
      ⊎_elim n earlier (at_or_below_cases (leads rs s) (leads rs t) ((prefix (leads rs t) t (above (leads rs t) t) refl).together k (leads rs s) (less_greater g) (less_greater before))))
      (at_or_below_cases t (leads rs t) (leads_sound rs t z).1)

  pub later_child : order (leads rs s) (leads rs t) ≡ Less
  later_child = go (order (leads rs s) (leads rs t)) refl
    where
      go : (o : Ordering) → order (leads rs s) (leads rs t) ≡ o → order (leads rs s) (leads rs t) ≡ Less
      go Less e = e
      go Equal e = absurd (n (exact_bytes (leads rs s) (leads rs t) e))
      go Greater e = absurd (not_earlier (flipped (leads rs s) (leads rs t) e))

abbrev pub Ascends : List (List ℕ) → Type 0
Ascends ts = (i j : ℕ) → i < j → j < length ts → order (get_or ts i []) (get_or ts j []) ≡ Less

-- ---- one term more

module _ (rs ts : List (List ℕ)) (ok : requestable rs ≡ true) (up : Ascends ts) (i : ℕ) (l : i < length ts) where
  abbrev t : List ℕ
  t = get_or ts i []

  abbrev c : List ℕ
  c = leads rs t

  abbrev cs : List (List ℕ)
  cs = children rs (take i ts)

  climb : Climbing cs
  climb = children_climb rs (take i ts)

  more : children rs (take (i + 1) ts) ≡ insert_some c cs
  more = children_more rs ts i l

  early_led : (o : ℕ) → o < i → 0 < length (leads rs (get_or ts o [])) → member cs (leads rs (get_or ts o [])) ≡ true
  early_led o k z =
      let e = get_or-take i ts o [] k in
      let m = length-take-le i ts (omega arith) in
      member_children rs (take i ts) (leads rs (get_or ts o [])) z ∙ subst (λ (x : List ℕ). led rs (leads rs x) (take i ts) ≡ true) e (led_at rs (take i ts) o (omega arith))

  -- the last child came from an earlier term
  came : 0 < length (last_of cs) → (o : ℕ) × (o < i) × (leads rs (get_or ts o []) ≡ last_of cs)
  came z =
      let (o, k, e) = led_place rs (take i ts) (last_of cs) (sym (member_children rs (take i ts) (last_of cs) z) ∙ member_last cs (some_there cs z)) in
      let m = length-take-le i ts (omega arith) in
      let k' : o < i = omega arith in (o, k', ap (leads rs) (sym (get_or-take i ts o [] k')) ∙ e)

  -- another child stands behind all so far
  behind_all : 0 < length c → (c ≡ last_of cs → ⊥) → Front c cs
  behind_all z n = ⊎_elim some none (cases_lt 0 (length (last_of cs)))
    where
      some : 0 < length (last_of cs) → Front c cs
      some y =
          let (o, k, e) = came y in
          let g = later_child rs ok (get_or ts o []) t (up o i k l) (let m = ap length e in omega arith) z (λ q. n (sym q ∙ e)) in
          front_all cs c climb (subst (λ (x : List ℕ). order x c ≡ Less) e g)

      none : length (last_of cs) ≤ 0 → Front c cs
      none y = empty cs (λ w.
          let e : last_of cs ≡ [] = nil_from_length (last_of cs) (omega arith) in
          both_ways _ (no_empty rs [] (take i ts)) (subst (λ (x : List ℕ). member cs x ≡ true) e (member_last cs w)))
        where
          empty : (ds : List (List ℕ)) → (0 < length ds → ⊥) → Front c ds
          empty [] h = tt
          empty (d ∷ ds) h = absurd (h (omega arith))

  -- what becomes of the children: a term that leads nowhere, to the last child, or to another
  after_none : length c ≡ 0 → children rs (take (i + 1) ts) ≡ cs
  after_none z = more ∙ some_none c cs z

  after_same : 0 < length c → c ≡ last_of cs → children rs (take (i + 1) ts) ≡ cs
  after_same z e = more ∙ some_last c cs climb z e

  after_new : 0 < length c → (c ≡ last_of cs → ⊥) → children rs (take (i + 1) ts) ≡ cs ++ c ∷ []
  after_new z n = more ∙ some_new c cs z (behind_all z n)

  grows : (us : List (List ℕ)) × (children rs (take (i + 1) ts) ≡ cs ++ us)
  grows =
      ⊎_elim (λ (z : 0 < length c).
      ⊎_elim (λ (b : bytes_eq c (last_of cs) ≡ true). ([], after_same z ((bytes_eq-Decides c (last_of cs)).0 b) ∙ sym (append-nil cs)))
      (λ (b : bytes_eq c (last_of cs) ≡ false). (c ∷ [], after_new z (λ e. both_ways _ b ((bytes_eq-Decides c (last_of cs)).1 e))))
      (cases_Bool (bytes_eq c (last_of cs))))
      (λ (z : length c ≤ 0). ([], after_none (omega arith) ∙ sym (append-nil cs))) (cases_lt 0 (length c))

-- the children so far are the first of all
module _ (rs ts : List (List ℕ)) (ok : requestable rs ≡ true) (up : Ascends ts) where
  front_children : (n i : ℕ) → i + n ≡ length ts → (us : List (List ℕ)) × (children rs ts ≡ children rs (take i ts) ++ us)
  front_children zero i e = ([], ap (children rs) (sym (take_all i ts (omega arith))) ∙ sym (append-nil (children rs (take i ts))))
  front_children (suc n) i e =
      let (us, p) = grows rs ts ok up i (omega arith) in
      let (vs, q) = front_children n (i + 1) (omega arith) in
      (us ++ vs, q ∙ ap (λ xs. xs ++ vs) p ∙ append_assoc (children rs (take i ts)) us vs)

  -- so a child keeps its place
  place_stays : (i : ℕ) (q : List ℕ) → i ≤ length ts → member (children rs (take i ts)) q ≡ true → place_in (children rs ts) q ≡ place_in (children rs (take i ts)) q
  place_stays i q l h =
      let (us, e) = front_children (length ts - i) i (omega arith) in ap (λ xs. place_in xs q) e ∙ place_kept (children rs (take i ts)) us q h

slot_none : (cs : List (List ℕ)) (c : List ℕ) → length c ≡ 0 → slot_of cs c ≡ None
slot_none cs [] z = refl
slot_none cs (x ∷ c) z = absurd (omega arith)

pub slot_some : (cs : List (List ℕ)) (c : List ℕ) → 0 < length c → slot_of cs c ≡ Some (place_in cs c)
slot_some cs [] z = absurd (omega arith)
slot_some cs (x ∷ c) z = refl

to_none : (ts : List (List ℕ)) (c : List ℕ) (d : ℕ) → length c ≡ 0 → collapsed_to ts c d ≡ nothing
to_none ts [] d z = refl
to_none ts (x ∷ c) d z = absurd (omega arith)

to_some : (ts : List (List ℕ)) (c : List ℕ) (d : ℕ) → 0 < length c → collapsed_to ts c d ≡ (first_below ts c, d)
to_some ts [] d z = absurd (omega arith)
to_some ts (x ∷ c) d z = refl

collapsed_none : (rs ts : List (List ℕ)) (o : ℕ) → length (leads rs (get_or ts o [])) ≡ 0 → collapsed rs ts o ≡ nothing
collapsed_none rs ts o z = go (request_of rs (get_or ts o [])) z
  where
    go : (q : Option (List ℕ)) → length (towards q (get_or ts o [])) ≡ 0 → collapsed_by ts q (get_or ts o []) ≡ nothing
    go None z = refl
    go (Some r) z = to_none ts (child_toward r (get_or ts o [])) (depth r) z

pub collapsed_some : (rs ts : List (List ℕ)) (o : ℕ) (r : List ℕ) → request_of rs (get_or ts o []) ≡ Some r → 0 < length (leads rs (get_or ts o [])) → collapsed rs ts o ≡ (first_below ts (leads rs (get_or ts o [])), depth r)
collapsed_some rs ts o r e z =
    let l = ap (λ q. towards q (get_or ts o [])) e in
    ap (λ q. collapsed_by ts q (get_or ts o [])) e
    ∙ to_some ts (child_toward r (get_or ts o [])) (depth r) (let m = ap length l in omega arith)
    ∙ ap (λ c. (first_below ts c, depth r)) (sym l)

-- the first that is at or below c is the first that leads there
first_at : (ts : List (List ℕ)) (c : List ℕ) (i : ℕ) → i < length ts → at_or_below (get_or ts i []) c ≡ true → ((o : ℕ) → o < i → at_or_below (get_or ts o []) c ≡ false) → first_below ts c ≡ i
first_at [] c i l h n = absurd (omega arith)
first_at (t ∷ ts) c zero l h n = rw h
first_at (t ∷ ts) c (suc i) l h n = rw (n 0 (omega arith)) (ap suc (first_at ts c i (omega arith) h (λ o k. n (suc o) (omega arith))))

-- ---- the walk over the terms

module _ (rs ts : List (List ℕ)) (ok : requestable rs ≡ true) (up : Ascends ts) (i : ℕ) (l : i < length ts) (at n : ℕ) (child : List ℕ) (first : ℕ) (w : Walked rs ts i at n child first) (at' : ℕ) (s : Sought rs (get_or ts i []) at') where
  further : (k j : ℕ) → k < at' → i + 1 ≤ j → j < length ts → order (get_or rs k []) (get_or ts j []) ≡ Greater → ⊥
  further k j a b d = less_greater (not_behind (get_or rs k []) (t rs ts ok up i l) (get_or ts j []) (s.passed k a) (up i j (omega arith) d))

  same_children : (cs' : List (List ℕ)) → children rs (take (i + 1) ts) ≡ cs' → cs' ≡ children rs (take i ts) → Walked rs ts (i + 1) at' n child first
  same_children cs' e q = let p = sym (e ∙ q) in record { cursor = s.within; sought = further; number = w.number ∙ ap length p; few = w.few; last = w.last ∙ ap last_of p; begun = w.begun }

  pub walk_none : length (leads rs (get_or ts i [])) ≡ 0 → Walked rs ts (i + 1) at' n child first
  walk_none z = same_children _ (after_none rs ts ok up i l z) refl

  module _ (z : 0 < length (leads rs (get_or ts i []))) where
    pub walk_same : leads rs (get_or ts i []) ≡ child → Walked rs ts (i + 1) at' n child first
    walk_same e = same_children _ (after_same rs ts ok up i l z (e ∙ w.last)) refl

    -- the number of that child, and where it begins
    pub same_place : leads rs (get_or ts i []) ≡ child → (suc (place_in (children rs ts) (leads rs (get_or ts i []))) ≡ n) × (first ≡ first_below ts (leads rs (get_or ts i [])))
    same_place e =
        let cs' = children rs (take i ts) in
        let q = e ∙ w.last in
        let y : 0 < length cs' = some_there cs' (let m = ap length q in omega arith) in
        let m : member cs' (leads rs (get_or ts i [])) ≡ true = subst (λ (x : List ℕ). member cs' x ≡ true) (sym q) (member_last cs' y) in
        (ap suc (place_stays rs ts ok up i _ (omega arith) m ∙ ap (place_in cs') q) ∙ place_last cs' (children_climb rs (take i ts)) y ∙ sym w.number, w.begun (let k = ap length e in omega arith) ∙ ap (first_below ts) (sym e))

    module _ (ne : leads rs (get_or ts i []) ≡ child → ⊥) where
      other : leads rs (get_or ts i []) ≡ last_of (children rs (take i ts)) → ⊥
      other q = ne (q ∙ sym w.last)

      starts : first_below ts (leads rs (get_or ts i [])) ≡ i
      starts =
          let f = behind_all rs ts ok up i l z other in
          first_at ts _ i l (leads_sound rs (get_or ts i []) z).1 (λ o k. is_false _ (λ h.
          let e = leads_is rs (get_or ts o []) (leads rs (get_or ts i [])) ok (leads_sound rs (get_or ts i []) z).0 h in
          both_ways _ (front_not_member _ _ f) (subst (λ (x : List ℕ). member (children rs (take i ts)) x ≡ true) e (early_led rs ts ok up i l o k (let m = ap length e in omega arith)))))

      pub walk_new : n < 128 → Walked rs ts (i + 1) at' (n + 1) (leads rs (get_or ts i [])) i
      walk_new few =
          let p = after_new rs ts ok up i l z other in
          let m = length-append (children rs (take i ts)) (leads rs (get_or ts i []) ∷ []) in
          let u = w.number in
          let v = ap length p in
          record { cursor = s.within; sought = further; number = omega arith; few = omega arith; last = sym (ap last_of p ∙ last_new (children rs (take i ts)) (leads rs (get_or ts i []))); begun = λ _. sym starts }

      pub new_place : (place_in (children rs ts) (leads rs (get_or ts i [])) ≡ n) × (i ≡ first_below ts (leads rs (get_or ts i [])))
      new_place =
          let cs' = children rs (take i ts) in
          let d = leads rs (get_or ts i []) in
          let p = after_new rs ts ok up i l z other in
          let f = behind_all rs ts ok up i l z other in
          let m = member_last (cs' ++ d ∷ []) (let k = length-append cs' (d ∷ []) in omega arith) in
          let h : member (children rs (take (i + 1) ts)) d ≡ true = (λ j. member (p j) d) ∙ subst (λ (x : List ℕ). member (cs' ++ d ∷ []) x ≡ true) (last_new cs' d) m in
          (place_stays rs ts ok up (i + 1) d (omega arith) h ∙ ap (λ xs. place_in xs d) p ∙ place_new cs' d f ∙ sym w.number, sym starts)

      -- one child more than there is room for
      pub too_many : 128 ≤ n → 128 < length (children rs ts)
      too_many h =
          let p = ap length (after_new rs ts ok up i l z other) ∙ length-append (children rs (take i ts)) (leads rs (get_or ts i []) ∷ []) in
          let m = children_longer rs (take (i + 1) ts) (drop (i + 1) ts) in
          let v = ap (λ us. length (children rs us)) (take-append-drop (i + 1) ts) in
          let u = w.number in omega arith

-- ---- the tables after i terms

pub record Filled (rs ts : List (List ℕ)) (i : ℕ) (mapping : List (ℕ × ℕ)) (slots : List (Option ℕ)) : Type 0 where
  pub slotted : (o : ℕ) → o < i → get_or slots o None ≡ slot_of (children rs ts) (leads rs (get_or ts o []))
  pub mapped : (o : ℕ) → o < i → get_or mapping o nothing ≡ collapsed rs ts o
  pub slots_left : (o : ℕ) → i ≤ o → o < 4096 → get_or slots o None ≡ None
  pub mapping_left : (o : ℕ) → i ≤ o → o < 4096 → get_or mapping o nothing ≡ nothing
  pub slots_full : length slots ≡ 4096
  pub mapping_full : length mapping ≡ 4096

module _ (rs ts : List (List ℕ)) (i : ℕ) (l : i < length ts) (small : length ts ≤ 4096) (mapping : List (ℕ × ℕ)) (slots : List (Option ℕ)) (f : Filled rs ts i mapping slots) where
  pub fill_none : length (leads rs (get_or ts i [])) ≡ 0 → Filled rs ts (i + 1) mapping slots
  fill_none z = record {
    slotted = below_more (λ o. get_or slots o None ≡ slot_of (children rs ts) (leads rs (get_or ts o []))) i f.slotted (f.slots_left i (omega arith) (omega arith) ∙ sym (slot_none (children rs ts) _ z));
    mapped = below_more (λ o. get_or mapping o nothing ≡ collapsed rs ts o) i f.mapped (f.mapping_left i (omega arith) (omega arith) ∙ sym (collapsed_none rs ts i z));
    slots_left = λ o k. f.slots_left o (omega arith);
    mapping_left = λ o k. f.mapping_left o (omega arith);
    slots_full = f.slots_full;
    mapping_full = f.mapping_full;
  }

  pub fill_some : (m : ℕ × ℕ) (s : Option ℕ) → m ≡ collapsed rs ts i → s ≡ slot_of (children rs ts) (leads rs (get_or ts i [])) → Filled rs ts (i + 1) (set mapping i m) (set slots i s)
  fill_some m s p q =
      let sf = f.slots_full in
      let mf = f.mapping_full in
      let apart' : (o : ℕ) → i + 1 ≤ o → o ≡ i → ⊥ = λ o k e. omega arith in
      record {
        slotted = below_more (λ o. get_or (set slots i s) o None ≡ slot_of (children rs ts) (leads rs (get_or ts o []))) i (λ o k. get_or-set_other slots i o s None (λ e. omega arith) ∙ f.slotted o k) (get_or-set_same slots i s None (omega arith) ∙ q);
        mapped = below_more (λ o. get_or (set mapping i m) o nothing ≡ collapsed rs ts o) i (λ o k. get_or-set_other mapping i o m nothing (λ e. omega arith) ∙ f.mapped o k) (get_or-set_same mapping i m nothing (omega arith) ∙ p);
        slots_left = λ o k h. get_or-set_other slots i o s None (apart' o k) ∙ f.slots_left o (omega arith) h;
        mapping_left = λ o k h. get_or-set_other mapping i o m nothing (apart' o k) ∙ f.mapping_left o (omega arith) h;
        slots_full = length-set slots i s ∙ sf;
        mapping_full = length-set mapping i m ∙ mf;
      }

-- all terms are done
pub mapping_filled : (rs ts : List (List ℕ)) {i n : ℕ} (mapping : List (ℕ × ℕ)) (slots : List (Option ℕ)) → i ≤ length ts → length ts ≤ i → n ≡ length (children rs (take i ts)) → n ≤ 128 → Filled rs ts i mapping slots → Collapses rs ts mapping slots
mapping_filled rs ts {i} mapping slots h k e few f =
    let z = ap (λ us. length (children rs us)) (take_all i ts k) in
    record { few = omega arith; full = (f.mapping_full, f.slots_full); slotted = λ o l. f.slotted o (omega arith); mapped = λ o l. f.mapped o (omega arith) }
