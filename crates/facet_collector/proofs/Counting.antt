-- What is counted by facet is the number of documents. Assumes nothing.
use Rattle.std.proofs.Common.{◌≡◌, ℕ, ◌+◌, ◌<◌, Bool, true, false, cond, List, [], ◌∷◌, length, filter, Less, sym, refl, ap, ◌∙◌, subst, ⊎_elim, arith}
use Rattle.collector.specs.Facets.{requested_child, count_of, holds_at, documents_at, CountsFacets, field_named, terms_in}
use Rattle.collector.specs.Meaning.{Laws, Collected, joined, worth_of}
use Rattle.facet.specs.Paths.{order}
use Rattle.std.proofs.lemmas.Slice.Eq.{bytes_eq-Decides}
use Rattle.std.proofs.lemmas.Bool.{cases_Bool}
use Rattle.std.specs.List.Sorted.{IsStrictlySortedBy}
use Rattle.std.specs.List.{AllByRecursion}
use Rattle.std.specs.Str.{bytes_eq}
use Rattle.facet_collector.specs.Children.{requestable, children, member}
use Rattle.facet_collector.specs.Counting.{facet_m, faceted}
use Rattle.facet_collector.specs.Entries.{sound}
use Rattle.facet_collector.proofs.Sets.{children_climb, member_child, member_holds, count_ones, ones_sound}
use Rattle.facet_collector.proofs.Sums.{Rises, Positive, Before, is_false, order_self, sums_sound, sums_assoc, sums_comm, sums_neutral, sums_fits, count_sums, from_sound, at_head, sound_ascending}

-- each entry has its own count
own_counts : (es : List (List ℕ × ℕ)) → Rises es → AllByRecursion (λ (e : List ℕ × ℕ). count_of es e.0 ≡ e.1) es
unfolding IsStrictlySortedBy
own_counts [] r = tt
own_counts (x ∷ es) r = (at_head x es, later es r.0 (own_counts es r.1))
  where
    skip : (q : List ℕ) (m n : ℕ) → order x.0 q ≡ Less → cond (bytes_eq x.0 q) m n ≡ n
    skip q m n h = ap (λ b. cond b m n) (is_false _ (λ b. less_not (subst (λ (y : List ℕ). order x.0 y ≡ Less) (sym ((bytes_eq-Decides x.0 q).0 b)) h)))
      where
        less_not : order x.0 x.0 ≡ Less → ⊥
        less_not l = let e = order_self x.0 in let z : ◌≡◌ {A = ℕ} 0 1 = cc in omega arith

    later : (fs : List (List ℕ × ℕ)) → Before x.0 fs → AllByRecursion (λ (e : List ℕ × ℕ). count_of es e.0 ≡ e.1) fs → AllByRecursion (λ (e : List ℕ × ℕ). count_of (x ∷ es) e.0 ≡ e.1) fs
    later [] a h = tt
    later (f ∷ fs) a h = (skip f.0 x.1 (count_of es f.0) a.0 ∙ h.0, later fs a.1 h.1)

module _ (field : List ℕ) (rs : List (List ℕ)) where
  abbrev terms : Collected → List (List ℕ)
  terms d = terms_in (field_named d.segment.fields field) d.document

  pub facet_lawful : Laws (facet_m field rs)
  facet_lawful = record {
    blank_has = refl;
    join_has = λ u v p q. sums_sound u v p q;
    worth_has = λ n s d x. ones_sound _ (children_climb rs (terms_in (field_named s.fields field) d));
    assoc = λ u v w p q r. sums_assoc u v w p q r;
    comm = λ u v p q. sums_comm u v p q;
    neutral = λ u p. sums_neutral u p;
    blank_fits = refl;
    part_fits = λ u v p q h. sums_fits u v h;
    unscored = λ e n s d x y. refl;
  }

  joined_sound : (ds : List Collected) → sound (joined (facet_m field rs) ds) ≡ true
  joined_sound [] = refl
  joined_sound (d ∷ ds) = sums_sound (worth_of (facet_m field rs) d) (joined (facet_m field rs) ds) (ones_sound _ (children_climb rs (terms d))) (joined_sound ds)

  -- one document more adds what it is worth
  count_more : (d : Collected) (ds : List Collected) (q : List ℕ) → count_of (joined (facet_m field rs) (d ∷ ds)) q ≡ cond (member (children rs (terms d)) q) 1 0 + count_of (joined (facet_m field rs) ds) q
  count_more d ds q =
      count_sums (worth_of (facet_m field rs) d) (joined (facet_m field rs) ds) q (ones_sound _ (children_climb rs (terms d))) (joined_sound ds) ∙ ap (λ n. n + count_of (joined (facet_m field rs) ds) q) (count_ones (children rs (terms d)) q)

  counted : (ds : List Collected) (q : List ℕ) → requestable rs ≡ true → requested_child rs q ≡ true → count_of (joined (facet_m field rs) ds) q ≡ documents_at field ds q
  counted [] q ok k = refl
  counted (d ∷ ds) q ok k =
      count_more d ds q ∙ ap (λ b. cond b 1 0 + count_of (joined (facet_m field rs) ds) q) (member_holds rs (terms d) q ok k) ∙ go (holds_at field q d) (counted ds q ok k)
    where
      go : (b : Bool) → count_of (joined (facet_m field rs) ds) q ≡ documents_at field ds q → cond b 1 0 + count_of (joined (facet_m field rs) ds) q ≡ length (cond b (d ∷ filter (holds_at field q) ds) (filter (holds_at field q) ds))
      go true e = omega arith
      go false e = omega arith

  -- what has a count is a requested child
  count_child : (ds : List Collected) (q : List ℕ) → 0 < count_of (joined (facet_m field rs) ds) q → requested_child rs q ≡ true
  count_child [] q h = absurd (omega arith)
  count_child (d ∷ ds) q h =
      ⊎_elim (λ (e : member (children rs (terms d)) q ≡ true). member_child rs (terms d) q e)
      (λ (e : member (children rs (terms d)) q ≡ false). count_child ds q (let c = count_more d ds q ∙ ap (λ b. cond b 1 0 + count_of (joined (facet_m field rs) ds) q) e in omega arith))
      (cases_Bool (member (children rs (terms d)) q))

  -- an entry has its count
  entries : (ds : List Collected) → AllByRecursion (λ (e : List ℕ × ℕ). (requested_child rs e.0 ≡ true) × (0 < e.1)) (joined (facet_m field rs) ds)
  entries ds =
      let (r, p) = from_sound (joined (facet_m field rs) ds) (joined_sound ds) in
      go (joined (facet_m field rs) ds) (own_counts (joined (facet_m field rs) ds) r) p
    where
      go : (es : List (List ℕ × ℕ)) → AllByRecursion (λ (e : List ℕ × ℕ). count_of (joined (facet_m field rs) ds) e.0 ≡ e.1) es → Positive es → AllByRecursion (λ (e : List ℕ × ℕ). (requested_child rs e.0 ≡ true) × (0 < e.1)) es
      go [] h p = tt
      go (e ∷ es) h p = ((count_child ds e.0 (let c = h.0 in let z = p.0 in omega arith), p.0), go es h.1 p.1)

  pub counts_facets : requestable rs ≡ true → CountsFacets (facet_m field rs) (faceted field rs)
  counts_facets ok ds h = record {
    counts = λ c k. counted ds c ok k;
    entries = entries ds;
    ascending = sound_ascending (joined (facet_m field rs) ds) (joined_sound ds);
  }
