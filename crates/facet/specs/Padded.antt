-- How a facet lies in its array: the bytes of its encoding, and zeros behind them. Assumes nothing.
use Rattle.std.specs.Prelude.{◌≡◌, ℕ, ◌-◌, ◌≤◌, true, List, ◌++◌, length, take, drop, replicate}
use Rattle.std.proofs.Common.{sym, ap, ◌∙◌, arith}
use Rattle.std.proofs.lemmas.List.{length-take-le, take-append-drop}
use Rattle.utf8.specs.Octets.{utf8}
use Rattle.facet.specs.declared.encoded.Facet.TheInside.{Inside}

-- the steps joined by byte 00
abbrev pub front : Inside → List ℕ
front f = take f.len f.bytes

pub record IsPadded (f : Inside) : Type 0 where
  pub full : length f.bytes ≡ 127
  pub within : f.len ≤ 127
  pub text : utf8 (front f) ≡ true
  pub padded : drop f.len f.bytes ≡ replicate (127 - f.len) 0

-- the array of an encoding
abbrev pub padded : List ℕ → Inside
padded e = record { bytes = e ++ replicate (127 - length e) 0; len = length e }

pub padded-front : (f : Inside) → IsPadded f → padded (front f) ≡ f
padded-front f h =
    let n : length (front f) ≡ f.len = length-take-le f.len f.bytes (let l = h.full in let w = h.within in omega arith) in
    let b : front f ++ replicate (127 - length (front f)) 0 ≡ f.bytes =
    ap (λ (k : ℕ). front f ++ replicate (127 - k) 0) n
    ∙ ap (λ (l : List ℕ). front f ++ l) (sym h.padded)
    ∙ take-append-drop f.len f.bytes in
    λ i. record { bytes = b i; len = n i }
