-- What the grammar says at a byte, and that its bytes are those of std's text. Assumes nothing.
use Rattle.std.proofs.Common.{◌≡◌, ℕ, zero, suc, ◌+◌, ◌-◌, ◌*◌, ◌/◌, ◌<◌, ◌≤◌, Bool, true, false, cond, ◌&&◌, ◌||◌, eqb, ◌⊎◌, List, [], ◌∷◌, ◌++◌, length, IsUtf8, sym, refl, ◌∙◌, subst, inl, inr, arith}
use lib.Utf8.{scalar, scalars, next, encode, encodes, low_scalar}
use Rattle.std.proofs.lemmas.Bool.{false≢true, cases_lt, and_parts, and_from}
use Rattle.std.proofs.lemmas.Bool.Decides.{nat_tests}
use Rattle.std.proofs.lemmas.Str.{IsUtf8-append, IsUtf8-encode, IsUtf8-nil, encode_ascii}
use Rattle.utf8.specs.Octets.{Span, span, within, tail, octets, utf8}
use Rattle.utf8.specs.Rows.{lead, follows}

bounds : (s : Span) (b : ℕ) → within s b ≡ true → (s.low ≤ b) × (b ≤ s.high)
bounds s b e = (grind (arith, nat_tests), grind (arith, nat_tests))

-- the alternatives of the grammar at a byte, f being what is said of the bytes behind it
abbrev chars : (List Span → Bool) → ℕ → Bool
chars f b =
    (within (span 0x00 0x7F) b && f [])
    || ((within (span 0xC2 0xDF) b && f (tail ∷ []))
    || ((within (span 0xE0 0xE0) b && f (span 0xA0 0xBF ∷ tail ∷ []))
    || ((within (span 0xE1 0xEC) b && f (tail ∷ tail ∷ []))
    || ((within (span 0xED 0xED) b && f (span 0x80 0x9F ∷ tail ∷ []))
    || ((within (span 0xEE 0xEF) b && f (tail ∷ tail ∷ []))
    || ((within (span 0xF0 0xF0) b && f (span 0x90 0xBF ∷ tail ∷ tail ∷ []))
    || ((within (span 0xF1 0xF3) b && f (tail ∷ tail ∷ tail ∷ []))
    || (within (span 0xF4 0xF4) b && f (span 0x80 0x8F ∷ tail ∷ tail ∷ [])))))))))

low : (f : List Span → Bool) (b : ℕ) → b < 128 → chars f b ≡ f []
low f b h = grind (arith, nat_tests)

high : (f : List Span → Bool) (b : ℕ) → 128 ≤ b → chars f b ≡ (lead b && f (follows b))
high f b h = grind (arith, nat_tests)

pub ascii_step : (b : ℕ) (bs : List ℕ) → b < 128 → octets [] (b ∷ bs) ≡ octets [] bs
ascii_step b bs = low (λ ss. octets ss bs) b

pub lead_step : (b : ℕ) (bs : List ℕ) → 128 ≤ b → octets [] (b ∷ bs) ≡ (lead b && octets (follows b) bs)
lead_step b bs = high (λ ss. octets ss bs) b

-- every span begins above the ASCII bytes
abbrev pub High : List Span → Type 0
High [] = Unit {0}
High (s ∷ ss) = (128 ≤ s.low) × High ss

high_cond : (t : Bool) (x y : List Span) → High x → High y → High (cond t x y)
high_cond true x y h k = h
high_cond false x y h k = k

high_follows : (b : ℕ) → High (follows b)
high_follows b = search (arith, high_cond)

pub beyond_step : (ss : List Span) (b : ℕ) (bs : List ℕ) → High ss → 128 ≤ b → octets ss (b ∷ bs) ≡ true → (ts : List Span) × High ts × (octets ts bs ≡ true) × ((xs : List ℕ) → octets ts xs ≡ true → octets ss (b ∷ xs) ≡ true)
beyond_step [] b bs h l e =
    let p = and_parts (lead b) (octets (follows b) bs) (sym (lead_step b bs l) ∙ e) in
    (follows b, high_follows b, p.1, λ xs k. lead_step b xs l ∙ and_from (lead b) (octets (follows b) xs) p.0 k)
beyond_step (s ∷ ss) b bs h l e =
    let p = and_parts (within s b) (octets ss bs) e in
    (ss, h.1, p.1, λ xs k. and_from (within s b) (octets ss xs) p.0 k)

pub low_ends : (ss : List Span) (b : ℕ) (bs : List ℕ) → High ss → b < 128 → octets ss (b ∷ bs) ≡ true → ss ≡ []
low_ends [] b bs h l e = refl
low_ends (s ∷ ss) b bs h l e =
    let p = bounds s b (and_parts (within s b) (octets ss bs) e).0 in
    absurd (omega arith)

-- a lead byte of each length, and what follows it
two : (f : List Span → Bool) (b : ℕ) → 0xC2 ≤ b → b ≤ 0xDF → chars f b ≡ f (tail ∷ [])
two f b l h = grind (arith, nat_tests)

abbrev second_3 : ℕ → Span
second_3 b = span (cond (eqb b 0xE0) 0xA0 0x80) (cond (eqb b 0xED) 0x9F 0xBF)

three : (f : List Span → Bool) (b : ℕ) → 0xE0 ≤ b → b ≤ 0xEF → chars f b ≡ f (second_3 b ∷ tail ∷ [])
three f b l h = grind (arith, nat_tests)

abbrev second_4 : ℕ → Span
second_4 b = span (cond (eqb b 0xF0) 0x90 0x80) (cond (eqb b 0xF4) 0x8F 0xBF)

four : (f : List Span → Bool) (b : ℕ) → 0xF0 ≤ b → b ≤ 0xF4 → chars f b ≡ f (second_4 b ∷ tail ∷ tail ∷ [])
four f b l h = grind (arith, nat_tests)

-- the bytes of a character of each length
encode_2 : (c : ℕ) → 128 ≤ c → c < 2048 → encode c ≡ (192 + c / 64) ∷ next c ∷ []
unfolding encode
encode_2 c l h = grind (arith, nat_tests)

encode_3 : (c : ℕ) → 2048 ≤ c → c < 65536 → encode c ≡ (224 + c / 4096) ∷ next (c / 64) ∷ next c ∷ []
unfolding encode
encode_3 c l h = grind (arith, nat_tests)

encode_4 : (c : ℕ) → 65536 ≤ c → encode c ≡ (240 + c / 262144) ∷ next (c / 4096) ∷ next (c / 64) ∷ next c ∷ []
unfolding encode
encode_4 c l = grind (arith, nat_tests)

-- bytes within the spans are a character's
text_2 : (b y : ℕ) → 0xC2 ≤ b → b ≤ 0xDF → within tail y ≡ true → IsUtf8 (b ∷ y ∷ [])
text_2 b y l h e =
    let c = (b - 192) * 64 + (y - 128) in
    let m = bounds tail y e in
    let p : 192 + c / 64 ≡ b = omega arith in
    let q : next c ≡ y = omega arith in
    subst IsUtf8 (encode_2 c (omega arith) (omega arith) ∙ (λ k. p k ∷ q k ∷ [])) (IsUtf8-encode c (low_scalar c (omega arith)))

text_3 : (b y z : ℕ) → 0xE0 ≤ b → b ≤ 0xEF → within (second_3 b) y ≡ true → within tail z ≡ true → IsUtf8 (b ∷ y ∷ z ∷ [])
text_3 b y z l h e g =
    let c = (b - 224) * 4096 + (y - 128) * 64 + (z - 128) in
    let m : (128 ≤ y) × (y ≤ 191) = (grind (arith, nat_tests), grind (arith, nat_tests)) in
    let n = bounds tail z g in
    let j : 2048 ≤ c = grind (arith, nat_tests) in
    let s : scalar c ≡ true = grind (arith, nat_tests) in
    let p : 224 + c / 4096 ≡ b = omega arith in
    let q : next (c / 64) ≡ y = omega arith in
    let r : next c ≡ z = omega arith in
    subst IsUtf8 (encode_3 c j (omega arith) ∙ (λ k. p k ∷ q k ∷ r k ∷ [])) (IsUtf8-encode c s)

text_4 : (b y z w : ℕ) → 0xF0 ≤ b → b ≤ 0xF4 → within (second_4 b) y ≡ true → within tail z ≡ true → within tail w ≡ true → IsUtf8 (b ∷ y ∷ z ∷ w ∷ [])
text_4 b y z w l h e g i =
    let c = (b - 240) * 262144 + (y - 128) * 4096 + (z - 128) * 64 + (w - 128) in
    let m : (128 ≤ y) × (y ≤ 191) = (grind (arith, nat_tests), grind (arith, nat_tests)) in
    let n = bounds tail z g in
    let o = bounds tail w i in
    let j : 65536 ≤ c = grind (arith, nat_tests) in
    let s : scalar c ≡ true = grind (arith, nat_tests) in
    let p : 240 + c / 262144 ≡ b = omega arith in
    let q : next (c / 4096) ≡ y = omega arith in
    let r : next (c / 64) ≡ z = omega arith in
    let t : next c ≡ w = omega arith in
    subst IsUtf8 (encode_4 c j ∙ (λ k. p k ∷ q k ∷ r k ∷ t k ∷ [])) (IsUtf8-encode c s)

-- what is left of bs behind its first character
abbrev Behind : List ℕ → Type 0
Behind bs = (xs : List ℕ) × (utf8 xs ≡ true) × (length xs < length bs) × (IsUtf8 xs → IsUtf8 bs)

by_2 : (b : ℕ) (bs : List ℕ) → 0xC2 ≤ b → b ≤ 0xDF → octets (tail ∷ []) bs ≡ true → Behind (b ∷ bs)
by_2 b [] l h e = absurd (false≢true e)
by_2 b (y ∷ xs) l h e =
    let p = and_parts (within tail y) (utf8 xs) e in
    (xs, p.1, omega arith, IsUtf8-append (b ∷ y ∷ []) xs (text_2 b y l h p.0))

by_3 : (b : ℕ) (bs : List ℕ) → 0xE0 ≤ b → b ≤ 0xEF → octets (second_3 b ∷ tail ∷ []) bs ≡ true → Behind (b ∷ bs)
by_3 b [] l h e = absurd (false≢true e)
by_3 b (y ∷ []) l h e = absurd (false≢true (and_parts (within (second_3 b) y) false e).1)
by_3 b (y ∷ z ∷ xs) l h e =
    let p = and_parts (within (second_3 b) y) (within tail z && utf8 xs) e in
    let q = and_parts (within tail z) (utf8 xs) p.1 in
    (xs, q.1, omega arith, IsUtf8-append (b ∷ y ∷ z ∷ []) xs (text_3 b y z l h p.0 q.0))

by_4 : (b : ℕ) (bs : List ℕ) → 0xF0 ≤ b → b ≤ 0xF4 → octets (second_4 b ∷ tail ∷ tail ∷ []) bs ≡ true → Behind (b ∷ bs)
by_4 b [] l h e = absurd (false≢true e)
by_4 b (y ∷ []) l h e = absurd (false≢true (and_parts (within (second_4 b) y) false e).1)
by_4 b (y ∷ z ∷ []) l h e = absurd (false≢true (and_parts (within tail z) false (and_parts (within (second_4 b) y) (within tail z && false) e).1).1)
by_4 b (y ∷ z ∷ w ∷ xs) l h e =
    let p = and_parts (within (second_4 b) y) (within tail z && (within tail w && utf8 xs)) e in
    let q = and_parts (within tail z) (within tail w && utf8 xs) p.1 in
    let r = and_parts (within tail w) (utf8 xs) q.1 in
    (xs, r.1, omega arith, IsUtf8-append (b ∷ y ∷ z ∷ w ∷ []) xs (text_4 b y z w l h p.0 q.0 r.0))

first_char : (b : ℕ) (bs : List ℕ) → utf8 (b ∷ bs) ≡ true → Behind (b ∷ bs)
first_char b bs e = by (cases_lt b 0x80) (cases_lt b 0xE0) (cases_lt b 0xF0)
  where
    f : List Span → Bool
    f ss = octets ss bs

    leads : 0x80 ≤ b → (0xC2 ≤ b) × (b ≤ 0xF4)
    leads l = bounds (span 0xC2 0xF4) b (and_parts (lead b) (f (follows b)) (sym (lead_step b bs l) ∙ e)).0

    by : (b < 0x80) ⊎ (0x80 ≤ b) → (b < 0xE0) ⊎ (0xE0 ≤ b) → (b < 0xF0) ⊎ (0xF0 ≤ b) → Behind (b ∷ bs)
    by (inl h) _ _ = (bs, sym (ascii_step b bs h) ∙ e, omega arith, IsUtf8-append (b ∷ []) bs (subst IsUtf8 (encode_ascii b h) (IsUtf8-encode b (low_scalar b (omega arith)))))
    by (inr l) (inl h) _ = let m : b ≤ 0xDF = omega arith in by_2 b bs (leads l).0 m (sym (two f b (leads l).0 m) ∙ e)
    by (inr _) (inr l) (inl h) = let m : b ≤ 0xEF = omega arith in by_3 b bs l m (sym (three f b l m) ∙ e)
    by (inr k) (inr _) (inr l) = let m = (leads k).1 in by_4 b bs l m (sym (four f b l m) ∙ e)

by_length : (n : ℕ) (bs : List ℕ) → length bs ≤ n → utf8 bs ≡ true → IsUtf8 bs
by_length n [] l e = IsUtf8-nil
by_length zero (b ∷ bs) l e = absurd (omega arith)
by_length (suc n) (b ∷ bs) l e =
    let p = first_char b bs e in
    p.3 (by_length n p.0 (omega (arith, p.2)) p.1)

pub grammar_text : (bs : List ℕ) → utf8 bs ≡ true → IsUtf8 bs
grammar_text bs = by_length (length bs) bs (omega arith)

-- and a character's bytes are within the spans
inside : (s : Span) (b : ℕ) (t : Bool) → s.low ≤ b → b ≤ s.high → (within s b && t) ≡ t
inside s b t l h = grind (arith, nat_tests)

char_step : (c : ℕ) (xs : List ℕ) → scalar c ≡ true → utf8 (encode c ++ xs) ≡ utf8 xs
char_step c xs s = by (cases_lt c 128) (cases_lt c 2048) (cases_lt c 65536)
  where
    last : (within tail (next c) && utf8 xs) ≡ utf8 xs
    last = inside tail (next c) (utf8 xs) (omega arith) (omega arith)

    by : (c < 128) ⊎ (128 ≤ c) → (c < 2048) ⊎ (2048 ≤ c) → (c < 65536) ⊎ (65536 ≤ c) → utf8 (encode c ++ xs) ≡ utf8 xs
    by (inl h) _ _ = rw (encode_ascii c h) (ascii_step c xs h)
    by (inr l) (inl h) _ = rw (encode_2 c l h) (two (λ ss. octets ss (next c ∷ xs)) (192 + c / 64) (omega arith) (omega arith) ∙ last)
    by (inr _) (inr l) (inl h) =
        let b = 224 + c / 4096 in
        let y = next (c / 64) in
        rw (encode_3 c l h)
        (three (λ ss. octets ss (y ∷ next c ∷ xs)) b (omega arith) (omega arith)
        ∙ inside (second_3 b) y (within tail (next c) && utf8 xs) (grind (arith, nat_tests)) (grind (arith, nat_tests))
        ∙ last)
    by (inr _) (inr _) (inr l) =
        let m : c < 1114112 = grind (arith, nat_tests) in
        let b = 240 + c / 262144 in
        let y = next (c / 4096) in
        let z = next (c / 64) in
        rw (encode_4 c l)
        (four (λ ss. octets ss (y ∷ z ∷ next c ∷ xs)) b (omega arith) (omega arith)
        ∙ inside (second_4 b) y (within tail z && (within tail (next c) && utf8 xs)) (grind (arith, nat_tests)) (grind (arith, nat_tests))
        ∙ inside tail z (within tail (next c) && utf8 xs) (omega arith) (omega arith)
        ∙ last)

encoded : (cs : List ℕ) → scalars cs ≡ true → utf8 (encodes cs) ≡ true
encoded [] s = refl
encoded (c ∷ cs) s =
    let p = and_parts (scalar c) (scalars cs) s in
    char_step c (encodes cs) p.0 ∙ encoded cs p.1

pub text_grammar : (bs : List ℕ) → IsUtf8 bs → utf8 bs ≡ true
text_grammar bs (cs, (s, e)) = subst (λ xs. utf8 xs ≡ true) e (encoded cs s)
