-- A list that is copied into an array.
use Rattle.std.proofs.Common.{◌≡◌, ℕ, ◌+◌, ◌≤◌, List, [], ◌∷◌, ◌++◌, length, set, take, sym, ap, ◌∙◌, append_assoc, arith}
use Rattle.std.proofs.lemmas.List.{append-nil, length-set, take_more_set}

-- the first `len` places are filled, and some of the list is left
pub record Gathered {X : Type 0} (xs : List X) (len : ℕ) (left all : List X) : Type 0 where
  pub full : length xs ≡ 128
  pub parts : take len xs ++ left ≡ all
  pub count : len + length left ≤ 128

module _ {X : Type 0} where
  pub gathered_more : (xs : List X) (len : ℕ) (left rest all : List X) (x : X) → Gathered xs len left all → left ≡ x ∷ rest → Gathered (set xs len x) (len + 1) rest all
  gathered_more xs len left rest all x g e =
      let n = ap length e in
      let f = g.full in
      let c = g.count in
      record {
        full = length-set xs len x ∙ g.full;
        parts =
            ap (λ l. l ++ rest) (take_more_set xs len x (omega arith))
            ∙ append_assoc (take len xs) (x ∷ []) rest
            ∙ ap (λ l. take len xs ++ l) (sym e)
            ∙ g.parts;
        count = omega arith;
      }

  pub gathered_all : (xs : List X) (len : ℕ) (left all : List X) → Gathered xs len left all → left ≡ [] → take len xs ≡ all
  gathered_all xs len left all g e = sym (append-nil (take len xs)) ∙ ap (λ l. take len xs ++ l) (sym e) ∙ g.parts
