-- What a text and an encoding are read as, with the refusals in the order in which they are asked. Assumes nothing.
use Rattle.std.specs.Prelude.{ℕ, false, cond, List, [], ◌∷◌, length, Ok, Err, Result, ◌==◌, nat_lt}
use Rattle.utf8.specs.Octets.{utf8}
use Rattle.facet.specs.declared.fault.FacetFault.{FacetFault}
use Rattle.facet.specs.declared.fault.FacetFault.TheVariants.{TextTooLong, NotUtf8, NoSlash, TooLong}
use Rattle.facet.specs.Text.{unescaped}

-- a facet has at most 127 bytes
abbrev pub limited : List ℕ → Result (List ℕ) FacetFault
limited f = cond (nat_lt 127 (length f)) (Err TooLong) (Ok f)

-- a text begins with a slash
abbrev pub slashed : List ℕ → Result (List ℕ) FacetFault
slashed [] = Err NoSlash
slashed (b ∷ rest) = cond (b == 47) (limited (unescaped false rest)) (Err NoSlash)

-- the facet of a text, which has at most 255 bytes and is UTF-8
abbrev pub read : List ℕ → Result (List ℕ) FacetFault
read text = cond (nat_lt 255 (length text)) (Err TextTooLong) (cond (utf8 text) (slashed text) (Err NotUtf8))

-- the facet of an encoding
abbrev pub decoded : List ℕ → Result (List ℕ) FacetFault
decoded bytes = cond (nat_lt 127 (length bytes)) (Err TooLong) (cond (utf8 bytes) (Ok bytes) (Err NotUtf8))
