-- Documents that are gathered one behind the other. Assumes nothing.
use Rattle.std.proofs.Common.{◌≡◌, ℕ, suc, ◌+◌, ◌<◌, ◌≤◌, List, [], ◌∷◌, ◌++◌, length, get_or, take, drop, Some, None, Ok, Err, Option, Result, sym, refl, ap, ◌∙◌, subst, arith, take-add}
use lib.Ieee.{Float}
use Rattle.std.proofs.lemmas.List.{append-nil, drop-map, map-append, drop_more, take_all, take-append-drop, take-map}
use Rattle.docset.specs.Pairs.{zero_score}
use Rattle.segment.specs.Columns.{asked}
use Rattle.collector.specs.declared.fault.CollectingFault.{CollectingFault}
use Rattle.collector.specs.declared.fault.CollectorFault.TheVariants.{Collecting}
use Rattle.collector.specs.Collections.{collection}
use Rattle.collector.specs.Contents.{Contents}
use Rattle.collector.specs.Meaning.{Meaning}
use Rattle.collector.specs.Collecting.{collecting_fault, unless, gathered, more, block, Collects}

pub asked_ok : {E : Type 0} (o : Option E) → Ok tt ≡ asked o → o ≡ None
asked_ok None e = refl
asked_ok (Some x) e = let z : ◌≡◌ {A = ℕ} 0 1 = cc in absurd (omega arith)

pub asked_err : {E : Type 0} (o : Option E) (x : E) → Err x ≡ asked o → o ≡ Some x
asked_err None x e = let z : ◌≡◌ {A = ℕ} 0 1 = cc in absurd (omega arith)
asked_err (Some y) x e = cc

module _ {V : Type 0} (m : Meaning V) (n : ℕ) (s : Contents) where
  pub gathered_then : (v : V) (ps qs : List (ℕ × Float)) → (gathered m n s v ps).1 ≡ None → gathered m n s v (ps ++ qs) ≡ gathered m n s (gathered m n s v ps).0 qs
  gathered_then v [] qs e = refl
  gathered_then v (p ∷ ps) qs e = go (collecting_fault m n s v p) e (gathered_then (more m n s v p) ps qs)
    where
      go : (o : Option CollectingFault) → (unless o v (gathered m n s (more m n s v p) ps)).1 ≡ None → ((gathered m n s (more m n s v p) ps).1 ≡ None → gathered m n s (more m n s v p) (ps ++ qs) ≡ gathered m n s (gathered m n s (more m n s v p) ps).0 qs) → unless o v (gathered m n s (more m n s v p) (ps ++ qs)) ≡ gathered m n s (unless o v (gathered m n s (more m n s v p) ps)).0 qs
      go None h ih = ih h
      go (Some x) h ih = let z : ◌≡◌ {A = ℕ} 0 1 = cc in absurd (omega arith)

  pub gathered_stops : (v : V) (ps qs : List (ℕ × Float)) (x : CollectingFault) → (gathered m n s v ps).1 ≡ Some x → gathered m n s v (ps ++ qs) ≡ gathered m n s v ps
  gathered_stops v [] qs x e = let z : ◌≡◌ {A = ℕ} 0 1 = cc in absurd (omega arith)
  gathered_stops v (p ∷ ps) qs x e = go (collecting_fault m n s v p) e (gathered_stops (more m n s v p) ps qs x)
    where
      go : (o : Option CollectingFault) → (unless o v (gathered m n s (more m n s v p) ps)).1 ≡ Some x → ((gathered m n s (more m n s v p) ps).1 ≡ Some x → gathered m n s (more m n s v p) (ps ++ qs) ≡ gathered m n s (more m n s v p) ps) → unless o v (gathered m n s (more m n s v p) (ps ++ qs)) ≡ unless o v (gathered m n s (more m n s v p) ps)
      go None h ih = ih h
      go (Some y) h ih = refl

  module _ {K : Type 0} (opened : K → Type 0) (held : K → V) (ps qs : List (ℕ × Float)) (a b : K) where
    pub collects_then : (c : K) (r : Result Unit CollectingFault) → Collects m opened held n s ps a b (Ok tt) → Collects m opened held n s qs b c r → Collects m opened held n s (ps ++ qs) a c r
    collects_then c r h k =
        let e = gathered_then (held a) ps qs (asked_ok _ h.answer) ∙ ap (λ v. gathered m n s v qs) (sym h.holds) in
        record {
          answer = k.answer ∙ ap (λ z. asked z.1) (sym e);
          holds = k.holds ∙ ap (λ z. z.0) (sym e);
          still = k.still;
        }

    pub collects_stops : (x : CollectingFault) → Collects m opened held n s ps a b (Err x) → Collects m opened held n s (ps ++ qs) a b (Err x)
    collects_stops x h =
        let e = gathered_stops (held a) ps qs x (asked_err _ x h.answer) in
        record {
          answer = h.answer ∙ ap (λ z. asked z.1) (sym e);
          holds = h.holds ∙ ap (λ z. z.0) (sym e);
          still = h.still;
        }

  -- ---- documents by the front that was collected so far

  module _ {K : Type 0} (opened : K → Type 0) (held : K → V) (ps : List (ℕ × Float)) (i : ℕ) (a b : K) where
    pub front_more : (k : ℕ) (qs : List (ℕ × Float)) (c : K) (r : Result Unit CollectingFault) → qs ≡ take k (drop i ps) → Collects m opened held n s (take i ps) a b (Ok tt) → Collects m opened held n s qs b c r → Collects m opened held n s (take (i + k) ps) a c r
    front_more k qs c r e h l =
        subst (λ xs. Collects m opened held n s xs a c r) (ap (λ xs. take i ps ++ xs) e ∙ sym (take-add i k ps)) (collects_then opened held (take i ps) qs a b c r h l)

    pub front_stops : (x : CollectingFault) → Collects m opened held n s (take i ps) a b (Err x) → Collects m opened held n s ps a b (Err x)
    front_stops x h =
        subst (λ xs. Collects m opened held n s xs a b (Err x)) (take-append-drop i ps) (collects_stops opened held (take i ps) (drop i ps) a b x h)

    pub front_whole : length ps ≤ i → Collects m opened held n s (take i ps) a b (Ok tt) → Collects m opened held n s ps a b (Ok tt)
    front_whole l h = subst (λ xs. Collects m opened held n s xs a b (Ok tt)) (take_all i ps l) h

  -- ---- documents block by block

  module _ {K : Type 0} (opened : K → Type 0) (held : K → V) (front : List ℕ) (a b : K) where
    pub block_more : (ds : List ℕ) (c : K) (r : Result Unit CollectingFault) → Collects m opened held n s (block front) a b (Ok tt) → Collects m opened held n s (block ds) b c r → Collects m opened held n s (block (front ++ ds)) a c r
    block_more ds c r h l =
        subst (λ xs. Collects m opened held n s xs a c r) (sym (map-append (λ d. (d, zero_score)) front ds)) (collects_then opened held (block front) (block ds) a b c r h l)

    pub block_stops : (ds back : List ℕ) (x : CollectingFault) → ds ≡ front ++ back → Collects m opened held n s (block front) a b (Err x) → Collects m opened held n s (block ds) a b (Err x)
    block_stops ds back x e h =
        let is = ap block e ∙ map-append (λ d. (d, zero_score)) front back in
        subst (λ xs. Collects m opened held n s xs a b (Err x)) (sym is) (collects_stops opened held (block front) (block back) a b x h)

    pub block_whole : (ds back : List ℕ) → ds ≡ front ++ back → length back ≡ 0 → Collects m opened held n s (block front) a b (Ok tt) → Collects m opened held n s (block ds) a b (Ok tt)
    block_whole ds [] e l h = subst (λ xs. Collects m opened held n s (block xs) a b (Ok tt)) (sym (e ∙ append-nil front)) h
    block_whole ds (d ∷ back) e l h = absurd (omega arith)

pub one_pair : (ps : List (ℕ × Float)) (i : ℕ) (d : ℕ × Float) → i < length ps → get_or ps i d ∷ [] ≡ take 1 (drop i ps)
one_pair ps i d h = sym (ap (take 1) (drop_more ps i d h))

-- a part of a block is the block of that part
block_part : (ds : List ℕ) (i k : ℕ) → block (take k (drop i ds)) ≡ take k (drop i (block ds))
block_part ds i k = let f : ℕ → ℕ × Float = λ d. (d, zero_score) in sym (take-map f k (drop i ds)) ∙ ap (take k) (sym (drop-map f i ds))

pub one_doc : (ds : List ℕ) (i : ℕ) → i < length ds → (get_or ds i 0, zero_score) ∷ [] ≡ take 1 (drop i (block ds))
one_doc ds i h = ap block (sym (ap (take 1) (drop_more ds i 0 h))) ∙ block_part ds i 1

pub block_length : (ds : List ℕ) → length (block ds) ≡ length ds
block_length [] = refl
block_length (d ∷ ds) = ap suc (block_length ds)

-- ---- the answer of a collection

module _ {V K : Type 0} (m : Meaning V) (n : ℕ) (s : Contents) (opened : K → Type 0) (held : K → V) (ps : List (ℕ × Float)) (a b : K) (free : m.refusal s ≡ None) (blank : held a ≡ m.blank) where
  pub collection_ok : Collects m opened held n s ps a b (Ok tt) → Ok (held b) ≡ collection m n s ps
  collection_ok h =
      let e = asked_ok _ h.answer in let v = h.holds in rw (free, ← blank, e, v) refl

  pub collection_err : (x : CollectingFault) → Collects m opened held n s ps a b (Err x) → Err (Collecting x) ≡ collection m n s ps
  collection_err x h = let e = asked_err _ x h.answer in rw (free, ← blank, e) refl
