-- An entry put among others.
use Rattle.std.proofs.Common.{◌≡◌, ℕ, ◌+◌, ◌<◌, List, [], ◌∷◌, ◌++◌, length, set, take, drop, sym, ap, subst, ◌∙◌, arith}
use Rattle.std.specs.List.{insert}
use Rattle.std.proofs.lemmas.List.{drop-set-add, drop-take, drop_at, length-drop, length-set, length-take-le, take-take, take_at, take_more_set, take-set-le}
use Rattle.std.proofs.lemmas.Slice.{take-put_mid}
use borrow.Rule.Slice.PartMut.{put_mid}

module _ {X : Type 0} where
  part : (xs : List X) (a m : ℕ) (e : X) → a + m < length xs → take (m + 1) (drop a (set xs (a + m) e)) ≡ take m (drop a xs) ++ e ∷ []
  part xs a m e h =
      ap (take (m + 1)) (drop-set-add a xs m e) ∙ take_more_set (drop a xs) m e (omega (arith, length-drop a xs))

  -- what is at the place a + m is written last, and then turned to the place a
  pub shifted : (xs ys : List X) (a m k n : ℕ) (e : X) → n ≡ a + m → n < length xs → k ≡ m + 1
      → ys ≡ drop m (take k (drop a (set xs n e))) ++ take m (take k (drop a (set xs n e)))
      → take (n + 1) (put_mid a k (set xs n e) ys) ≡ insert (take n xs) a e
  shifted xs ys a m k n e p h q r =
      subst (λ (n : ℕ). n < length xs → ys ≡ drop m (take k (drop a (set xs n e))) ++ take m (take k (drop a (set xs n e))) → take (n + 1) (put_mid a k (set xs n e) ys) ≡ insert (take n xs) a e) (sym p)
      (subst (λ (k : ℕ). a + m < length xs → ys ≡ drop m (take k (drop a (set xs (a + m) e))) ++ take m (take k (drop a (set xs (a + m) e))) → take (a + m + 1) (put_mid a k (set xs (a + m) e) ys) ≡ insert (take (a + m) xs) a e) (sym q)
      at_sum) h r
    where
      at_sum : a + m < length xs → ys ≡ drop m (take (m + 1) (drop a (set xs (a + m) e))) ++ take m (take (m + 1) (drop a (set xs (a + m) e)))
          → take (a + m + 1) (put_mid a (m + 1) (set xs (a + m) e) ys) ≡ insert (take (a + m) xs) a e
      at_sum h r =
          let w : length (take m (drop a xs)) ≡ m = length-take-le m (drop a xs) (omega (arith, length-drop a xs)) in
          let d = part xs a m e h in
          let y : ys ≡ e ∷ take m (drop a xs) =
          r ∙ ap (λ l. drop m l ++ take m l) d ∙ ap (λ l. l ++ take m (take m (drop a xs) ++ e ∷ [])) (drop_at (take m (drop a xs)) (e ∷ []) m w)
          ∙ ap (λ l. e ∷ l) (take_at (take m (drop a xs)) (e ∷ []) m w) in
          let l : length ys ≡ m + 1 = ap length y ∙ omega (arith, w) in
          take-put_mid a (m + 1) (set xs (a + m) e) ys (a + m + 1) (omega arith) (omega (arith, length-set xs (a + m) e))
          ∙ (λ i. take-set-le a xs (a + m) e (omega arith) i ++ y i)
          ∙ (λ i. sym (take-take a (a + m) xs (omega arith)) i ++ e ∷ sym (drop-take a m xs) i)
