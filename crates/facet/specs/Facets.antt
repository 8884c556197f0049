-- The order of facets, by their encodings. Assumes nothing.
use Rattle.std.specs.Prelude.{◌≡◌, ℕ, ◌<◌, ◌⊎◌, List, [], ◌∷◌, refl}
use Rattle.std.proofs.Common.{ap, ◌∙◌, inl, inr}
use Rattle.std.specs.declared.cmp.Ordering.{Ordering}
use Rattle.std.specs.declared.cmp.Ordering.TheVariants.{Less, Equal, Greater}
use Rattle.std.specs.Cmp.{IsTotalOrder, nat_cmp_is, ranked}
use Rattle.std.specs.Cmp.Lexicographic.{on_texts}
use Rattle.std.specs.Ordering.{nat_cmp, ordering_then}
use Rattle.facet.specs.Paths.{order}

-- what `cmp` may answer for two encodings: the first bytes that differ decide, and a proper prefix is first
abbrev pub Ordered : List ℕ → List ℕ → Ordering → Type 0
Ordered [] [] r = r ≡ Equal
Ordered [] (b ∷ g) r = r ≡ Less
Ordered (a ∷ f) [] r = r ≡ Greater
Ordered (a ∷ f) (b ∷ g) r = ((a < b) × (r ≡ Less)) ⊎ ((a ≡ b) × Ordered f g r) ⊎ ((b < a) × (r ≡ Greater))

-- there is one such answer, that of the order
pub facets_say : (f g : List ℕ) (r : Ordering) → Ordered f g r → r ≡ order f g
facets_say [] [] r h = h
facets_say [] (b ∷ g) r h = h
facets_say (a ∷ f) [] r h = h
facets_say (a ∷ f) (b ∷ g) r (inl (l, e)) = e ∙ ap (λ o. ordering_then o (order f g)) (nat_cmp_is a b Less l)
facets_say (a ∷ f) (b ∷ g) r (inr (inl (q, h))) = facets_say f g r h ∙ ap (λ o. ordering_then o (order f g)) (nat_cmp_is a b Equal q)
facets_say (a ∷ f) (b ∷ g) r (inr (inr (l, e))) = e ∙ ap (λ o. ordering_then o (order f g)) (nat_cmp_is a b Greater l)

pub ordered : (f g : List ℕ) → Ordered f g (order f g)
ordered [] [] = refl
ordered [] (b ∷ g) = refl
ordered (a ∷ f) [] = refl
ordered (a ∷ f) (b ∷ g) = by (ordered f g) (nat_cmp a b) refl
  where
    by : Ordered f g (order f g) → (o : Ordering) → o ≡ nat_cmp a b → Ordered (a ∷ f) (b ∷ g) (ordering_then o (order f g))
    by h Less e = inl (ranked a b Less e, refl)
    by h Equal e = inr (inl (ranked a b Equal e, h))
    by h Greater e = inr (inr (ranked a b Greater e, refl))

-- the order of facets is total
abbrev pub facets : IsTotalOrder order
facets = on_texts (λ f. f)
