-- A character by its row, and by the places of its bytes. Assumes nothing.
use Rattle.std.proofs.Common.{◌≡◌, ℕ, ◌<◌, ◌≤◌, true, ◌&&◌, eqb, List, [], ◌∷◌, length, get_or, drop, refl, ◌∙◌, arith}
use Rattle.std.proofs.lemmas.Bool.{and_parts, eqb-true}
use Rattle.std.proofs.lemmas.Bool.Decides.{nat_tests}
use Rattle.utf8.specs.Octets.{Span, span, within, octets, utf8}
use Rattle.utf8.specs.declared.Row.{Row}
use Rattle.utf8.specs.Rows.{lead, follows, tails, same_span, same_spans, row_says}
use Rattle.utf8.proofs.Laws.{ascii_step, lead_step}

span_is : (s t : Span) → same_span s t ≡ true → s ≡ t
span_is s t h =
    let p = and_parts (eqb s.low t.low) (eqb s.high t.high) h in
    λ i. record { low = eqb-true s.low t.low p.0 i; high = eqb-true s.high t.high p.1 i }

spans_are : (ss ts : List Span) → same_spans ss ts ≡ true → ss ≡ ts
spans_are [] [] h = refl
spans_are [] (t ∷ ts) h = cc
spans_are (s ∷ ss) [] h = cc
spans_are (s ∷ ss) (t ∷ ts) h =
    let p = and_parts (same_span s t) (same_spans ss ts) h in
    λ i. span_is s t p.0 i ∷ spans_are ss ts p.1 i

pub ascii : (xs : List ℕ) → 0 < length xs → get_or xs 0 0 < 128 → utf8 xs ≡ utf8 (drop 1 xs)
ascii [] z h = absurd (omega arith)
ascii (b ∷ xs) z h = ascii_step b xs h

-- the second byte by the row of the first, and then the tails
pub second : (xs : List ℕ) (r : Row) → 2 ≤ length xs → lead (get_or xs 0 0) ≡ true → row_says (get_or xs 0 0) r ≡ true
    → utf8 xs ≡ (within (span r.low r.high) (get_or xs 1 0) && octets (tails r.len) (drop 2 xs))
second [] r z l h = absurd (omega arith)
second (b ∷ []) r z l h = absurd (omega arith)
second (b ∷ c ∷ xs) r z l h =
    let e = spans_are (follows b) (span r.low r.high ∷ tails r.len) (and_parts (within (span 2 4) r.len) (same_spans (follows b) (span r.low r.high ∷ tails r.len)) h).1 in
    let m : 128 ≤ b = grind (arith, nat_tests) in
    lead_step b (c ∷ xs) m ∙ (λ k. l k && octets (e k) (c ∷ xs))

pub none : (xs : List ℕ) → length xs ≡ 0 → utf8 xs ≡ true
none [] h = refl
none (b ∷ xs) h = absurd (omega arith)
