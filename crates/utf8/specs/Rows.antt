-- What a row of the table of lead bytes says. Assumes nothing.
use Rattle.std.specs.Prelude.{ℕ, Bool, true, false, cond, ◌&&◌, List, [], ◌∷◌, ◌==◌, nat_le}
use Rattle.utf8.specs.declared.Row.{Row}
use Rattle.utf8.specs.Octets.{Span, span, within, tail}

-- the bytes above the ASCII bytes that a UTF8-char begins with
abbrev pub lead : ℕ → Bool
lead b = within (span 0xC2 0xF4) b

-- what follows a lead byte
abbrev pub follows : ℕ → List Span
follows b =
    cond (nat_le b 0xDF) (tail ∷ [])
    (cond (nat_le b 0xE0) (span 0xA0 0xBF ∷ tail ∷ [])
    (cond (nat_le b 0xEC) (tail ∷ tail ∷ [])
    (cond (nat_le b 0xED) (span 0x80 0x9F ∷ tail ∷ [])
    (cond (nat_le b 0xEF) (tail ∷ tail ∷ [])
    (cond (nat_le b 0xF0) (span 0x90 0xBF ∷ tail ∷ tail ∷ [])
    (cond (nat_le b 0xF3) (tail ∷ tail ∷ tail ∷ [])
    (span 0x80 0x8F ∷ tail ∷ tail ∷ [])))))))

-- the bytes behind the second in a sequence of n
abbrev pub tails : ℕ → List Span
tails n = cond (n == 2) [] (cond (n == 3) (tail ∷ []) (tail ∷ tail ∷ []))

abbrev pub same_span : Span → Span → Bool
same_span s t = s.low == t.low && s.high == t.high

abbrev pub same_spans : List Span → List Span → Bool
same_spans [] [] = true
same_spans [] (t ∷ ts) = false
same_spans (s ∷ ss) [] = false
same_spans (s ∷ ss) (t ∷ ts) = same_span s t && same_spans ss ts

-- a row says what follows the lead byte b
abbrev pub row_says : ℕ → Row → Bool
row_says b r = within (span 2 4) r.len && same_spans (follows b) (span r.low r.high ∷ tails r.len)
