-- The number of each refusal of a facet, and its meaning. Assumes nothing.
use Rattle.std.specs.Prelude.{ℕ, List, codes}
use Rattle.facet.specs.declared.fault.FacetFault.{FacetFault}
use Rattle.facet.specs.declared.fault.FacetFault.TheVariants.{TextTooLong, NotUtf8, NoSlash, TooLong, BufferTooShort}

abbrev pub number_of : FacetFault → ℕ
number_of TextTooLong = 1
number_of NotUtf8 = 2
number_of NoSlash = 3
number_of TooLong = 4
number_of BufferTooShort = 5

abbrev pub meaning_of : FacetFault → List ℕ
meaning_of TextTooLong = codes "the text has more than 255 bytes"
meaning_of NotUtf8 = codes "the bytes are not UTF-8"
meaning_of NoSlash = codes "the text does not begin with a slash"
meaning_of TooLong = codes "the facet has more than 127 bytes"
meaning_of BufferTooShort = codes "the buffer is too short for the text"
