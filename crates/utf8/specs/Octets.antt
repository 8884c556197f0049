-- UTF-8 as the grammar of RFC 3629, section 4, has it. Assumes nothing.
use Rattle.std.specs.Prelude.{ℕ, Bool, true, false, ◌&&◌, ◌||◌, List, [], ◌∷◌, nat_le}

-- the bytes from low to high
pub record Span : Type 0 where
  pub low : ℕ
  pub high : ℕ

abbrev pub span : ℕ → ℕ → Span
span lo hi = record { low = lo; high = hi }

abbrev pub within : Span → ℕ → Bool
within s b = nat_le s.low b && nat_le b s.high

-- UTF8-tail
abbrev pub tail : Span
tail = span 0x80 0xBF

-- UTF8-octets = *( UTF8-char ), behind the bytes of a UTF8-char of which those of the spans are still to come
abbrev pub octets : List Span → List ℕ → Bool
octets [] [] = true
octets [] (b ∷ bs) =
    -- UTF8-1
    (within (span 0x00 0x7F) b && octets [] bs)
    -- UTF8-2
    || ((within (span 0xC2 0xDF) b && octets (tail ∷ []) bs)
    -- UTF8-3
    || ((within (span 0xE0 0xE0) b && octets (span 0xA0 0xBF ∷ tail ∷ []) bs)
    || ((within (span 0xE1 0xEC) b && octets (tail ∷ tail ∷ []) bs)
    || ((within (span 0xED 0xED) b && octets (span 0x80 0x9F ∷ tail ∷ []) bs)
    || ((within (span 0xEE 0xEF) b && octets (tail ∷ tail ∷ []) bs)
    -- UTF8-4
    || ((within (span 0xF0 0xF0) b && octets (span 0x90 0xBF ∷ tail ∷ tail ∷ []) bs)
    || ((within (span 0xF1 0xF3) b && octets (tail ∷ tail ∷ tail ∷ []) bs)
    || (within (span 0xF4 0xF4) b && octets (span 0x80 0x8F ∷ tail ∷ tail ∷ []) bs))))))))
octets (s ∷ ss) [] = false
octets (s ∷ ss) (b ∷ bs) = within s b && octets ss bs

-- the bytes are UTF8-octets
abbrev pub utf8 : List ℕ → Bool
utf8 bs = octets [] bs
