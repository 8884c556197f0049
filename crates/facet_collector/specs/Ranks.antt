-- The order of hits: the higher count first, and then the smaller facet. Assumes nothing.
use Rattle.std.specs.Prelude.{◌≡◌, ℕ, ◌<◌, ◌⊎◌, Bool, ◌&&◌, List, refl, nat_eq, ◌==◌}
use Rattle.std.proofs.Common.{sym, ap, ◌∙◌, inl, inr}
use Rattle.std.proofs.lemmas.Bool.{and_parts}
use Rattle.std.proofs.lemmas.Slice.Eq.{bytes_eq-Decides}
use Rattle.std.specs.declared.cmp.Ordering.{Ordering}
use Rattle.std.specs.declared.cmp.Ordering.TheVariants.{Less, Equal, Greater}
use Rattle.std.specs.Cmp.{IsTotalOrder, IsEquivalence, and_equiv, back_total, nat_cmp_total, nat_eq_equiv, on_equiv, on_total, ranked as by_number, then_total, unsigned_ties}
use Rattle.std.specs.Cmp.Lexicographic.{on_texts, on_texts_equal, texts_ties}
use Rattle.std.specs.Ordering.{eq_by_cmp, eq_of_both, flip_args, is_eq, nat_cmp, on, ordering_then, then_cmp}
use Rattle.std.specs.Str.{bytes_eq}
use Rattle.facet.specs.Facets.{Ordered, ordered}
use Rattle.facet.specs.Paths.{order}
use borrow.Author.Tests.{eqb-true}

-- a hit is a facet with its count
abbrev pub rank : List ℕ × ℕ → List ℕ × ℕ → Ordering
rank = then_cmp (flip_args (on (λ h. h.1) nat_cmp)) (on (λ h. h.0) order)

-- both parts are equal
abbrev pub same_hit : List ℕ × ℕ → List ℕ × ℕ → Bool
same_hit = eq_of_both (on (λ h. h.1) nat_eq) (on (λ h. h.0) bytes_eq)

-- what `cmp` may answer for two hits
abbrev pub Ranks : List ℕ × ℕ → List ℕ × ℕ → Ordering → Type 0
Ranks x y r = ((y.1 < x.1) × (r ≡ Less)) ⊎ ((x.1 ≡ y.1) × Ordered x.0 y.0 r) ⊎ ((x.1 < y.1) × (r ≡ Greater))

-- it is a total order, and tells any two hits apart
pub record RankLaws : Type 0 where
  pub total : IsTotalOrder rank
  pub exact : (x y : List ℕ × ℕ) → rank x y ≡ Equal → x ≡ y
  pub ranks : (x y : List ℕ × ℕ) → Ranks x y (rank x y)

pub same_hits : IsEquivalence same_hit
same_hits = and_equiv (on_equiv (λ h. h.1) nat_eq_equiv) (on_texts_equal (λ h. h.0))

pub rank_total : IsTotalOrder rank
rank_total = then_total (back_total (on_total (λ h. h.1) nat_cmp_total)) (on_texts (λ h. h.0))

both_equal : (o p : Ordering) → is_eq (ordering_then o p) ≡ is_eq o && is_eq p
both_equal Less p = refl
both_equal Equal p = refl
both_equal Greater p = refl

pub rank_ties : (x y : List ℕ × ℕ) → same_hit x y ≡ eq_by_cmp rank x y
rank_ties x y =
    (λ i. (nat_eq_equiv.symm x.1 y.1 ∙ unsigned_ties y.1 x.1) i && texts_ties x.0 y.0 i) ∙ sym (both_equal (nat_cmp y.1 x.1) (order x.0 y.0))

rank_exact : (x y : List ℕ × ℕ) → rank x y ≡ Equal → x ≡ y
rank_exact x y h =
    let p = and_parts (x.1 == y.1) (bytes_eq x.0 y.0) (rank_ties x y ∙ ap is_eq h) in
    λ i. ((bytes_eq-Decides x.0 y.0).0 p.1 i, eqb-true x.1 y.1 p.0 i)

rank_ranks : (x y : List ℕ × ℕ) → Ranks x y (rank x y)
rank_ranks x y = by (ordered x.0 y.0) (nat_cmp y.1 x.1) refl
  where
    by : Ordered x.0 y.0 (order x.0 y.0) → (o : Ordering) → o ≡ nat_cmp y.1 x.1 → Ranks x y (ordering_then o (order x.0 y.0))
    by h Less e = inl (by_number y.1 x.1 Less e, refl)
    by h Equal e = inr (inl (sym (by_number y.1 x.1 Equal e), h))
    by h Greater e = inr (inr (by_number y.1 x.1 Greater e, refl))

pub rank_laws : RankLaws
rank_laws = record { total = rank_total; exact = rank_exact; ranks = rank_ranks }
