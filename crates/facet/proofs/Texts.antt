-- The text of a facet, byte by byte. Assumes nothing.
use Rattle.std.proofs.Common.{◌≡◌, ℕ, ◌+◌, ◌*◌, ◌<◌, ◌≤◌, Bool, true, false, cond, ◌||◌, eqb, List, [], ◌∷◌, ◌++◌, length, sym, refl, ap, ◌∙◌, arith, length-append}
use Rattle.std.proofs.lemmas.Bool.{eqb-true}
use Rattle.std.proofs.lemmas.List.Sums.{sum_by-cons}
use Rattle.std.specs.List.{flat_map, count_by}
use Rattle.facet.specs.Pieces.{grow, split}
use Rattle.facet.specs.Text.{unescaped, escaped, printed, shown}
use Rattle.facet.proofs.Paths.{split_some}

-- ---- printing

abbrev of_steps : List (List ℕ) → List ℕ
of_steps ps = flat_map (λ (step : List ℕ). 47 ∷ escaped step) ps

of_grown : (b : ℕ) (ps : List (List ℕ)) (x : List ℕ) → eqb b 0 ≡ false → 0 < length ps → of_steps ps ≡ 47 ∷ x → of_steps (grow b ps) ≡ 47 ∷ (shown b ++ x)
of_grown b [] x z h e = absurd (omega arith)
of_grown b (p ∷ ps) x z h e =
    let q : escaped p ++ of_steps ps ≡ x = cc in
    let s : shown b ≡ cond (eqb b 47 || eqb b 92) (92 ∷ b ∷ []) (b ∷ []) = ap (λ (t : Bool). cond t (47 ∷ []) (cond (eqb b 47 || eqb b 92) (92 ∷ b ∷ []) (b ∷ []))) z in
    ap (λ (l : List ℕ). 47 ∷ l) (cut (eqb b 47 || eqb b 92) (escaped p) (of_steps ps) x q ∙ ap (λ (l : List ℕ). l ++ x) (sym s))
  where
    cut : (t : Bool) (p ps x : List ℕ) → p ++ ps ≡ x → cond t (92 ∷ b ∷ p) (b ∷ p) ++ ps ≡ cond t (92 ∷ b ∷ []) (b ∷ []) ++ x
    cut true p ps x q = ap (λ (l : List ℕ). 92 ∷ b ∷ l) q
    cut false p ps x q = ap (λ (l : List ℕ). b ∷ l) q

of_split : (f : List ℕ) → of_steps (split 0 f) ≡ 47 ∷ flat_map shown f
of_split [] = refl
of_split (b ∷ f) = cut (eqb b 0) refl (of_split f)
  where
    cut : (t : Bool) → eqb b 0 ≡ t → of_steps (split 0 f) ≡ 47 ∷ flat_map shown f → of_steps (cond t ([] ∷ split 0 f) (grow b (split 0 f))) ≡ 47 ∷ (shown b ++ flat_map shown f)
    cut true e h = ap (λ (l : List ℕ). 47 ∷ l) (h ∙ sym (ap (λ (t : Bool). cond t (47 ∷ []) (cond (eqb b 47 || eqb b 92) (92 ∷ b ∷ []) (b ∷ [])) ++ flat_map shown f) e))
    cut false e h = of_grown b (split 0 f) (flat_map shown f) e (split_some 0 f) h

-- the text is a slash and then that of each byte
pub printed_is : (f : List ℕ) → printed f ≡ 47 ∷ flat_map shown f
printed_is [] = refl
printed_is (b ∷ f) = of_split (b ∷ f)

-- ---- reading what is printed

pub unescaped_shown : (b : ℕ) (x : List ℕ) → unescaped false (shown b ++ x) ≡ b ∷ unescaped false x
unescaped_shown b x = cut (eqb b 0) (eqb b 47) (eqb b 92) refl refl refl
  where
    cut : (z s e : Bool) → eqb b 0 ≡ z → eqb b 47 ≡ s → eqb b 92 ≡ e → unescaped false (cond z (47 ∷ []) (cond (s || e) (92 ∷ b ∷ []) (b ∷ [])) ++ x) ≡ b ∷ unescaped false x
    cut true s e p q r = ap (λ (n : ℕ). n ∷ unescaped false x) (sym (eqb-true b 0 p))
    cut false true e p q r = refl
    cut false false true p q r = refl
    cut false false false p q r = (λ i. cond (r i) (unescaped true x) (cond (q i) 0 b ∷ unescaped false x))

pub unescaped_joined : (f : List ℕ) → unescaped false (flat_map shown f) ≡ f
unescaped_joined [] = refl
unescaped_joined (b ∷ f) = unescaped_shown b (flat_map shown f) ∙ ap (λ (l : List ℕ). b ∷ l) (unescaped_joined f)

-- ---- lengths

pub length_shown : (b : ℕ) → (1 ≤ length (shown b)) × (length (shown b) ≤ 2)
length_shown b = cut (eqb b 0) (eqb b 47 || eqb b 92)
  where
    cut : (z s : Bool) → (1 ≤ length (cond z (47 ∷ []) (cond s (92 ∷ b ∷ []) (b ∷ [])))) × (length (cond z (47 ∷ []) (cond s (92 ∷ b ∷ []) (b ∷ []))) ≤ 2)
    cut true s = (omega arith, omega arith)
    cut false true = (omega arith, omega arith)
    cut false false = (omega arith, omega arith)

pub length_joined : (f : List ℕ) → length (flat_map shown f) ≤ 2 * length f
length_joined [] = omega arith
length_joined (b ∷ f) = let h = length_joined f in let s = length_shown b in let a = length-append (shown b) (flat_map shown f) in omega arith

-- a byte more for each that has a backslash before it
pub joined_escaped : (f : List ℕ) → length (flat_map shown f) ≡ length f + count_by (λ b. eqb b 47 || eqb b 92) f
joined_escaped [] = refl
joined_escaped (b ∷ f) =
    let h = joined_escaped f in
    let s = cut (eqb b 0) (eqb b 47 || eqb b 92) (λ z. ap (λ (n : ℕ). eqb n 47 || eqb n 92) (eqb-true b 0 z)) in
    let a = length-append (shown b) (flat_map shown f) in
    omega (arith, h, s, a, sum_by-cons (λ x. cond (eqb x 47 || eqb x 92) 1 0) b f)
  where
    cut : (z s : Bool) → (z ≡ true → s ≡ false) → length (cond z (47 ∷ []) (cond s (92 ∷ b ∷ []) (b ∷ []))) ≡ 1 + cond s 1 0
    cut true s e = ap (λ (t : Bool). 1 + cond t 1 0) (sym (e refl))
    cut false true e = refl
    cut false false e = refl
