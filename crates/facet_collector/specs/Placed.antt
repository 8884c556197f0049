-- Where a facet's entry is among entries. Assumes nothing.
use Rattle.std.specs.Prelude.{◌≡◌, ℕ, ◌<◌, ◌≤◌, cond, List, [], ◌∷◌, length, Ok, Err, Result, nat_lt, slice_index_or}
use Rattle.std.specs.declared.cmp.Ordering.TheVariants.{Less, Greater}
use Rattle.facet.specs.Paths.{order}

-- the facet of the entry at i
abbrev pub facet_at : List (List ℕ × ℕ) → ℕ → List ℕ
facet_at es i = (slice_index_or es i ([], 0)).0

-- the entries before place i stand before f, and the others behind it
pub record Between (es : List (List ℕ × ℕ)) (f : List ℕ) (i : ℕ) : Type 0 where
  pub within : i ≤ length es
  pub before : (k : ℕ) → k < i → order (facet_at es k) f ≡ Less
  pub behind : (k : ℕ) → i ≤ k → k < length es → order (facet_at es k) f ≡ Greater

-- where the facet's entry is, or else where it would be
abbrev pub Placed : List (List ℕ × ℕ) → List ℕ → Result ℕ ℕ → Type 0
Placed es f (Ok i) = (i < length es) × (facet_at es i ≡ f)
Placed es f (Err i) = Between es f i

-- n at one facet: an entry where n is above 0
abbrev pub entry : List ℕ → ℕ → List (List ℕ × ℕ)
entry f n = cond (nat_lt 0 n) ((f, n) ∷ []) []
