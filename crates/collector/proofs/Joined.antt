-- What documents are worth, joined in any order. Assumes nothing.
use Rattle.std.proofs.Common.{◌≡◌, ℕ, zero, suc, ◌<◌, Bool, true, false, cond, List, [], ◌∷◌, length, get_or, set, is_ok, IfOk, Some, None, Option, Result, sym, refl, ap, ◌∙◌, subst, arith, ltb-true, lt-ltb}
use lib.Ieee.{Float}
use Rattle.std.proofs.lemmas.List.Sorted.{IsPermutation-keeps}
use Rattle.std.specs.List.{swap, AllByRecursion}
use Rattle.std.specs.List.Sorted.{IsPermutation}
use Rattle.docset.specs.Pairs.{docs_of, zero_score}
use Rattle.collector.specs.declared.fault.CollectingFault.{CollectingFault}
use Rattle.collector.specs.declared.fault.CollectingFault.TheVariants.{NoDocument, Unfit}
use Rattle.collector.specs.declared.fault.CollectorFault.{CollectorFault}
use Rattle.collector.specs.declared.fault.OpeningFault.{OpeningFault}
use Rattle.collector.specs.Collecting.{collecting_fault, unless, gathered, more, block}
use Rattle.collector.specs.Collections.{finished, collection, documents, Accepted, Joined, AnyScores}
use Rattle.collector.specs.Contents.{Contents}
use Rattle.collector.specs.Meaning.{Meaning, Laws, Collected, worth_of, joined}

-- ---- what two neighbours may change places in, may be in any order

module _ {X V : Type 0} (F : List X → V) (cong : (x : X) (xs ys : List X) → F xs ≡ F ys → F (x ∷ xs) ≡ F (x ∷ ys)) (turn : (x y : X) (xs : List X) → F (x ∷ y ∷ xs) ≡ F (y ∷ x ∷ xs)) where
  put : (x d : X) (xs : List X) (j : ℕ) → j < length xs → F (get_or xs j d ∷ set xs j x) ≡ F (x ∷ xs)
  put x d [] j h = absurd (omega arith)
  put x d (y ∷ ys) zero h = turn y x ys
  put x d (y ∷ ys) (suc j) h =
      turn (get_or ys j d) y (set ys j x) ∙ cong y _ _ (put x d ys j (omega arith)) ∙ turn y x ys

  exchange : (d : X) (xs : List X) (i j : ℕ) → i < length xs → j < length xs → F (set (set xs i (get_or xs j d)) j (get_or xs i d)) ≡ F xs
  exchange d [] i j h k = absurd (omega arith)
  exchange d (x ∷ xs) zero zero h k = refl
  exchange d (x ∷ xs) zero (suc j) h k = put x d xs j (omega arith)
  exchange d (x ∷ xs) (suc i) zero h k = put x d xs i (omega arith)
  exchange d (x ∷ xs) (suc i) (suc j) h k = cong x _ _ (exchange d xs i j (omega arith) (omega arith))

  exchanged_same : (xs : List X) (i j : ℕ) → i < length xs → j < length xs → F (swap xs i j) ≡ F xs
  exchanged_same [] i j h k = refl
  exchanged_same (d ∷ xs) i j h k = exchange d (d ∷ xs) i j h k

  pub shuffled_same : (xs ys : List X) → IsPermutation xs ys → F ys ≡ F xs
  shuffled_same xs ys h = IsPermutation-keeps xs (λ l. F l ≡ F xs) refl (λ l i j p q e. exchanged_same l i j p q ∙ e) ys h

-- ---- the join of worths

module _ {V : Type 0} {m : Meaning V} (laws : Laws m) where
  pub joined_has : (ds : List Collected) → m.has (joined m ds) ≡ true
  joined_has [] = laws.blank_has
  joined_has (d ∷ ds) = laws.join_has _ _ (laws.worth_has _ _ _ _) (joined_has ds)

  swapped : (d e : Collected) (ds : List Collected) → joined m (d ∷ e ∷ ds) ≡ joined m (e ∷ d ∷ ds)
  swapped d e ds =
      let p = laws.worth_has d.ordinal d.segment d.document d.score in
      let q = laws.worth_has e.ordinal e.segment e.document e.score in
      let r = joined_has ds in
      sym (laws.assoc _ _ _ p q r) ∙ ap (λ v. m.join v (joined m ds)) (laws.comm _ _ p q) ∙ laws.assoc _ _ _ q p r

  pub joined_shuffled : (ds es : List Collected) → IsPermutation ds es → joined m es ≡ joined m ds
  joined_shuffled ds es h = shuffled_same (joined m) (λ d xs ys e. ap (m.join (worth_of m d)) e) swapped ds es h

-- ---- documents of one segment, one by one

module _ {V : Type 0} {m : Meaning V} (laws : Laws m) (n : ℕ) (s : Contents) where
  abbrev of : List (ℕ × Float) → V
  of ps = joined m (documents n s ps)

  of_shuffled : (ps qs : List (ℕ × Float)) → IsPermutation ps qs → of qs ≡ of ps
  of_shuffled ps qs h =
      shuffled_same of (λ p xs ys e. ap (m.join (m.worth n s p.0 p.1)) e) (λ p q xs. swapped laws _ _ (documents n s xs)) ps qs h

  has_more : (v : V) (p : ℕ × Float) → m.has v ≡ true → m.has (more m n s v p) ≡ true
  has_more v p h = laws.join_has _ _ h (laws.worth_has _ _ _ _)

  one_more : (v : V) (p : ℕ × Float) (ps : List (ℕ × Float)) → m.has v ≡ true → m.join (more m n s v p) (of ps) ≡ m.join v (of (p ∷ ps))
  one_more v p ps h = laws.assoc _ _ _ h (laws.worth_has _ _ _ _) (joined_has laws (documents n s ps))

  gathered_joined : (v : V) (ps : List (ℕ × Float)) → m.has v ≡ true → (gathered m n s v ps).1 ≡ None → (gathered m n s v ps).0 ≡ m.join v (of ps)
  gathered_joined v [] h e = sym (laws.comm _ _ h laws.blank_has ∙ laws.neutral _ h)
  gathered_joined v (p ∷ ps) h e = go (collecting_fault m n s v p) e (gathered_joined (more m n s v p) ps (has_more v p h))
    where
      go : (o : Option CollectingFault) → (unless o v (gathered m n s (more m n s v p) ps)).1 ≡ None → ((gathered m n s (more m n s v p) ps).1 ≡ None → (gathered m n s (more m n s v p) ps).0 ≡ m.join (more m n s v p) (of ps)) → (unless o v (gathered m n s (more m n s v p) ps)).0 ≡ m.join v (of (p ∷ ps))
      go None k ih = ih k ∙ one_more v p ps h
      go (Some x) k ih = let z : ◌≡◌ {A = ℕ} 0 1 = cc in absurd (omega arith)

  none_left : (v : V) → m.has v ≡ true → m.join v m.blank ≡ v
  none_left v h = laws.comm _ _ h laws.blank_has ∙ laws.neutral _ h

  asks : (v : V) (p : ℕ × Float) (a b : Bool) → cond a (cond b None (Some Unfit)) (Some NoDocument) ≡ None → (a ≡ true) × (b ≡ true)
  asks v p true true e = (refl, refl)
  asks v p true false e = let z : ◌≡◌ {A = ℕ} 0 1 = cc in absurd (omega arith)
  asks v p false b e = let z : ◌≡◌ {A = ℕ} 0 1 = cc in absurd (omega arith)

  gathered_within : (v : V) (ps : List (ℕ × Float)) → m.has v ≡ true → m.fits v ≡ true → (gathered m n s v ps).1 ≡ None → AllByRecursion (λ (p : ℕ × Float). p.0 < s.docs) ps × (m.fits (m.join v (of ps)) ≡ true)
  gathered_within v [] h f e = (tt, ap m.fits (none_left v h) ∙ f)
  gathered_within v (p ∷ ps) h f e = go (collecting_fault m n s v p) refl e (gathered_within (more m n s v p) ps (has_more v p h))
    where
      go : (o : Option CollectingFault) → collecting_fault m n s v p ≡ o → (unless o v (gathered m n s (more m n s v p) ps)).1 ≡ None → (m.fits (more m n s v p) ≡ true → (gathered m n s (more m n s v p) ps).1 ≡ None → AllByRecursion (λ (q : ℕ × Float). q.0 < s.docs) ps × (m.fits (m.join (more m n s v p) (of ps)) ≡ true)) → AllByRecursion (λ (q : ℕ × Float). q.0 < s.docs) (p ∷ ps) × (m.fits (m.join v (of (p ∷ ps))) ≡ true)
      go None a k ih =
          let (l, g) = asks v p _ _ a in
          let (w, t) = ih g k in ((ltb-true _ _ l, w), ap m.fits (sym (one_more v p ps h)) ∙ t)
      go (Some x) a k ih = let z : ◌≡◌ {A = ℕ} 0 1 = cc in absurd (omega arith)

  within_gathered : (v : V) (ps : List (ℕ × Float)) → m.has v ≡ true → AllByRecursion (λ (p : ℕ × Float). p.0 < s.docs) ps → m.fits (m.join v (of ps)) ≡ true → (gathered m n s v ps).1 ≡ None
  within_gathered v [] h w f = refl
  within_gathered v (p ∷ ps) h w f =
      let g = ap m.fits (one_more v p ps h) ∙ f in
      let t = laws.part_fits _ _ (has_more v p h) (joined_has laws (documents n s ps)) g in
      let none : collecting_fault m n s v p ≡ None = rw (lt-ltb p.0 s.docs w.0, t) in
      ap (λ o. (unless o v (gathered m n s (more m n s v p) ps)).1) none ∙ within_gathered (more m n s v p) ps (has_more v p h) w.1 g

  -- ---- what the answer is

  from_blank : (ps : List (ℕ × Float)) → m.join m.blank (of ps) ≡ of ps
  from_blank ps = laws.neutral _ (joined_has laws (documents n s ps))

  pub collection_joined : (ps : List (ℕ × Float)) → Joined m n s ps (collection m n s ps)
  collection_joined ps = record { worths = worths (m.refusal s) (gathered m n s m.blank ps).1 refl; accepted = (sound (m.refusal s) (gathered m n s m.blank ps).1 refl refl, complete) }
    where
      worths : (o : Option OpeningFault) (e : Option CollectingFault) → (gathered m n s m.blank ps).1 ≡ e → IfOk (finished o (gathered m n s m.blank ps).0 e) (λ v. (qs : List (ℕ × Float)) → IsPermutation ps qs → v ≡ of qs)
      worths (Some x) e h = tt
      worths None (Some x) h = tt
      worths None None h = λ qs k. gathered_joined m.blank ps laws.blank_has h ∙ from_blank ps ∙ sym (of_shuffled ps qs k)

      sound : (o : Option OpeningFault) (e : Option CollectingFault) → m.refusal s ≡ o → (gathered m n s m.blank ps).1 ≡ e → is_ok (finished o (gathered m n s m.blank ps).0 e) ≡ true → Accepted m n s ps
      sound (Some x) e p q h = let z : ◌≡◌ {A = ℕ} 0 1 = cc in absurd (omega arith)
      sound None (Some x) p q h = let z : ◌≡◌ {A = ℕ} 0 1 = cc in absurd (omega arith)
      sound None None p q h =
          let (w, f) = gathered_within m.blank ps laws.blank_has laws.blank_fits q in
          record { unrefused = p; within = w; fit = ap m.fits (sym (from_blank ps)) ∙ f }

      complete : Accepted m n s ps → is_ok (collection m n s ps) ≡ true
      complete a =
          let e = within_gathered m.blank ps laws.blank_has a.within (ap m.fits (from_blank ps) ∙ a.fit) in
          rw (a.unrefused, e)

  -- ---- without scores

  plain : m.scored ≡ false → (ps : List (ℕ × Float)) → of (block (docs_of ps)) ≡ of ps
  plain u [] = refl
  plain u (p ∷ ps) =
      ap (λ v. m.join v (of (block (docs_of ps)))) (laws.unscored u n s p.0 zero_score p.1) ∙ ap (m.join (m.worth n s p.0 p.1)) (plain u ps)

  pub any_scores : (ds : List ℕ) → AnyScores m n s ds (collection m n s (block ds))
  any_scores ds u = go (m.refusal s) (gathered m n s m.blank (block ds)).1 refl
    where
      blocks : (qs : List (ℕ × Float)) → IsPermutation ds (docs_of qs) → of (block (docs_of qs)) ≡ of (block ds)
      blocks qs k = shuffled_same (λ xs. of (block xs)) (λ d xs ys e. ap (m.join (m.worth n s d zero_score)) e) (λ d e xs. swapped laws _ _ (documents n s (block xs))) ds (docs_of qs) k

      go : (o : Option OpeningFault) (e : Option CollectingFault) → (gathered m n s m.blank (block ds)).1 ≡ e → IfOk (finished o (gathered m n s m.blank (block ds)).0 e) (λ v. (qs : List (ℕ × Float)) → IsPermutation ds (docs_of qs) → v ≡ of qs)
      go (Some x) e h = tt
      go None (Some x) h = tt
      go None None h = λ qs k. gathered_joined m.blank (block ds) laws.blank_has h ∙ from_blank (block ds) ∙ sym (blocks qs k) ∙ plain u qs

  -- an answer that is the collection is joined
  pub answer_joined : (ps : List (ℕ × Float)) (r : Result V CollectorFault) → r ≡ collection m n s ps → Joined m n s ps r
  answer_joined ps r e = subst (λ z. Joined m n s ps z) (sym e) (collection_joined ps)

  pub answer_any_scores : (ds : List ℕ) (r : Result V CollectorFault) → r ≡ collection m n s (block ds) → AnyScores m n s ds r
  answer_any_scores ds r e = subst (λ z. AnyScores m n s ds z) (sym e) (any_scores ds)
