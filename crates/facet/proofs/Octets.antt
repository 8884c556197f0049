-- Reading, printing and cutting keep UTF-8. Assumes nothing.
use Rattle.std.proofs.Common.{◌≡◌, ℕ, ◌<◌, ◌≤◌, Bool, true, false, cond, ◌||◌, eqb, List, [], ◌∷◌, ◌++◌, length, Ok, Err, sym, refl, ap, ◌∙◌, subst, ⊎_elim, arith}
use Rattle.std.proofs.lemmas.Bool.{eqb-true, or_cases, cases_lt, le-ltb}
use Rattle.std.specs.List.{flat_map}
use Rattle.utf8.specs.Octets.{Span, octets, utf8}
use Rattle.utf8.proofs.Laws.{High, ascii_step, beyond_step, low_ends}
use Rattle.facet.specs.declared.fault.FacetFault.TheVariants.{TextTooLong, NotUtf8, TooLong}
use Rattle.facet.specs.Reading.{read, slashed, limited}
use Rattle.facet.specs.Laws.{IsTextOf}
use Rattle.facet.specs.Text.{unescaped, printed, shown}
use Rattle.facet.specs.Paths.{above}
use Rattle.facet.proofs.Paths.{way, at_or_below_rest, on_the_way}
use Rattle.facet.proofs.Texts.{printed_is, unescaped_joined, length_joined}

-- an ASCII byte stands between characters
apart : (ss : List Span) (b : ℕ) (xs : List ℕ) → High ss → b < 128 → octets ss (b ∷ xs) ≡ true → (ss ≡ []) × (octets [] xs ≡ true)
apart ss b xs h l e =
    let z = low_ends ss b xs h l e in
    (z, sym (ascii_step b xs l) ∙ subst (λ (ts : List Span). octets ts (b ∷ xs) ≡ true) z e)

-- a byte stays in front where what follows may be replaced
keeps : (ss : List Span) (b : ℕ) (xs ys : List ℕ) → High ss → octets ss (b ∷ xs) ≡ true → ((ts : List Span) → High ts → octets ts xs ≡ true → octets ts ys ≡ true) → octets ss (b ∷ ys) ≡ true
keeps ss b xs ys h e f =
    ⊎_elim (λ (l : b < 128).
    let z = apart ss b xs h l e in
    subst (λ (ts : List Span). octets ts (b ∷ ys) ≡ true) (sym z.0) (ascii_step b ys l ∙ f [] tt z.1))
    (λ (l : 128 ≤ b). let z = beyond_step ss b xs h l e in z.3 ys (f z.0 z.1 z.2))
    (cases_lt b 128)

octets_unescaped : (xs : List ℕ) (dropped : Bool) (ss : List Span) → High ss → octets ss xs ≡ true → octets ss (unescaped dropped xs) ≡ true
octets_unescaped [] true ss h e = e
octets_unescaped [] false ss h e = e
octets_unescaped (b ∷ xs) true ss h e = keeps ss b xs (unescaped false xs) h e (octets_unescaped xs false)
octets_unescaped (b ∷ xs) false ss h e = cut (eqb b 92) (eqb b 47) refl refl (octets_unescaped xs)
  where
    cut : (t u : Bool) → eqb b 92 ≡ t → eqb b 47 ≡ u → ((d : Bool) (ts : List Span) → High ts → octets ts xs ≡ true → octets ts (unescaped d xs) ≡ true)
        → octets ss (cond t (unescaped true xs) (cond u 0 b ∷ unescaped false xs)) ≡ true
    cut true u p q f =
        let z = apart ss b xs h (let i = eqb-true b 92 p in omega arith) e in
        subst (λ (ts : List Span). octets ts (unescaped true xs) ≡ true) (sym z.0) (f true [] tt z.1)
    cut false true p q f =
        let z = apart ss b xs h (let i = eqb-true b 47 q in omega arith) e in
        subst (λ (ts : List Span). octets ts (0 ∷ unescaped false xs) ≡ true) (sym z.0) (ascii_step 0 (unescaped false xs) (omega arith) ∙ f false [] tt z.1)
    cut false false p q f = keeps ss b xs (unescaped false xs) h e (f false)

pub utf8_unescaped : (xs : List ℕ) → utf8 xs ≡ true → utf8 (unescaped false xs) ≡ true
utf8_unescaped xs e = octets_unescaped xs false [] tt e

octets_shown : (f : List ℕ) (ss : List Span) → High ss → octets ss f ≡ true → octets ss (flat_map shown f) ≡ true
octets_shown [] ss h e = e
octets_shown (b ∷ f) ss h e = cut (eqb b 0) (eqb b 47 || eqb b 92) refl refl (octets_shown f)
  where
    cut : (t u : Bool) → eqb b 0 ≡ t → (eqb b 47 || eqb b 92) ≡ u → ((ts : List Span) → High ts → octets ts f ≡ true → octets ts (flat_map shown f) ≡ true)
        → octets ss (cond t (47 ∷ []) (cond u (92 ∷ b ∷ []) (b ∷ [])) ++ flat_map shown f) ≡ true
    cut true u p q k =
        let z = apart ss b f h (let i = eqb-true b 0 p in omega arith) e in
        subst (λ (ts : List Span). octets ts (47 ∷ flat_map shown f) ≡ true) (sym z.0) (ascii_step 47 (flat_map shown f) (omega arith) ∙ k [] tt z.1)
    cut false true p q k =
        let l : b < 128 = ⊎_elim (λ (i : eqb b 47 ≡ true). let j = eqb-true b 47 i in omega arith) (λ (i : eqb b 92 ≡ true). let j = eqb-true b 92 i in omega arith) (or_cases (eqb b 47) (eqb b 92) q) in
        let z = apart ss b f h l e in
        subst (λ (ts : List Span). octets ts (92 ∷ b ∷ flat_map shown f) ≡ true) (sym z.0)
        (ascii_step 92 (b ∷ flat_map shown f) (omega arith) ∙ ascii_step b (flat_map shown f) l ∙ k [] tt z.1)
    cut false false p q k = keeps ss b f (flat_map shown f) h e k

utf8_printed : (f : List ℕ) → utf8 f ≡ true → utf8 (printed f) ≡ true
utf8_printed f e = ap utf8 (printed_is f) ∙ ascii_step 47 (flat_map shown f) (omega arith) ∙ octets_shown f [] tt e

-- what stands before an ASCII byte
octets_front : (xs : List ℕ) (b : ℕ) (ys : List ℕ) (ss : List Span) → High ss → b < 128 → octets ss (xs ++ b ∷ ys) ≡ true → octets ss xs ≡ true
octets_front [] b ys ss h l e = subst (λ (ts : List Span). octets ts [] ≡ true) (sym (low_ends ss b ys h l e)) refl
octets_front (c ∷ xs) b ys ss h l e = keeps ss c (xs ++ b ∷ ys) xs h e (λ ts k. octets_front xs b ys ts k l)

utf8_front : (xs ys : List ℕ) → utf8 (xs ++ 0 ∷ ys) ≡ true → utf8 xs ≡ true
utf8_front xs ys e = octets_front xs 0 ys [] tt (omega arith) e

-- a facet's child on the way is UTF-8 as the facet is
pub utf8_way : (p f : List ℕ) → above p f ≡ true → 0 < length (way p f) → utf8 f ≡ true → utf8 (way p f) ≡ true
utf8_way p f h z u =
    ⊎_elim (λ (e : f ≡ way p f). ap utf8 (sym e) ∙ u) (λ (e : (r : List ℕ) × (f ≡ way p f ++ 0 ∷ r)). utf8_front (way p f) e.0 (ap utf8 (sym e.1) ∙ u))
    (at_or_below_rest f (way p f) z (on_the_way p f h z).leads)

-- ---- reading back

length_printed : (f : List ℕ) → length f ≤ 127 → length (printed f) ≤ 255
length_printed f l = let h = length_joined f in let e = ap length (printed_is f) in omega arith

pub reads_back : (f : List ℕ) → length f ≤ 127 → utf8 f ≡ true → read (printed f) ≡ Ok f
reads_back f l u =
    (λ i. cond (le-ltb 255 (length (printed f)) (length_printed f l) i) (Err TextTooLong) (cond (utf8_printed f u i) (slashed (printed_is f i)) (Err NotUtf8)))
    ∙ ap limited (unescaped_joined f)
    ∙ ap (λ (t : Bool). cond t (Err TooLong) (Ok f)) (le-ltb 127 (length f) l)

pub text_of : (f : List ℕ) → length f ≤ 127 → utf8 f ≡ true → IsTextOf f (printed f)
text_of f l u = record { bound = length_printed f l; is_utf8 = utf8_printed f u; reads_back = reads_back f l u }
