-- The order of scores. Assumes nothing.
use Rattle.std.specs.Prelude.{◌≡◌, ℕ, zero, suc, ◌+◌, ◌*◌, ◌<◌, ◌≤◌, Bool, true, false, not, ◌&&◌, ◌||◌, ◌==◌, nat_lt, refl, Float}
use Rattle.std.proofs.Common.{sym, ap, ◌∙◌, ⊎_elim, mul-pos, zero-mul, arith}
use Rattle.std.proofs.Math.Path.{fun_ext}
use Rattle.std.specs.Bool.{beq}
use borrow.Author.Tests.{lt-ltb, le-ltb, eq-eqb, eqb-true, clash}
use Rattle.std.specs.Float.{nan, inf, fin}
use Rattle.std.specs.Float.Ieee.{lt, eq, le, is_nan, below, level, up, down}
use Rattle.std.specs.Float.Ieee.Fits.{down_pos}
use Rattle.std.specs.Float.Ieee.Positive.{through}
use Rattle.std.proofs.lemmas.Bool.{cases_lt, and_parts}
use Rattle.std.proofs.lemmas.Bool.Decides.{nat_tests}
use Rattle.collector.specs.Scores.{reaches}

-- ---- numbers with a sign: below is the opposite of at most

not_below : (s : Bool) (a : ℕ) (t : Bool) (b : ℕ) → (below s a t b || level s a t b) ≡ not (below t b s a)
not_below false a false b = grind (arith, nat_tests)
not_below false a true b = grind (arith, nat_tests)
not_below true a false b = grind (arith, nat_tests)
not_below true a true b = grind (arith, nat_tests)

-- what `>=` answers: of a floor that is a number
pub le_reaches : (floor x : Float) → is_nan floor ≡ false → le floor x ≡ reaches floor x
unfolding le lt eq is_nan
le_reaches nan x n = absurd (clash (sym n))
le_reaches (inf s) nan n = refl
le_reaches (inf true) (inf true) n = refl
le_reaches (inf true) (inf false) n = refl
le_reaches (inf false) (inf true) n = refl
le_reaches (inf false) (inf false) n = refl
le_reaches (inf true) (fin t k d) n = refl
le_reaches (inf false) (fin t k d) n = refl
le_reaches (fin s m e) nan n = refl
le_reaches (fin s m e) (inf true) n = refl
le_reaches (fin s m e) (inf false) n = refl
le_reaches (fin s m e) (fin t k d) n = not_below s (m * up e * down d) t (k * up d * down e)

-- ---- equal floors are reached by the same scores

ltb_same : (a b c d : ℕ) → (b ≤ a → d ≤ c) → (d ≤ c → b ≤ a) → nat_lt a b ≡ nat_lt c d
ltb_same a b c d h k =
    ⊎_elim (λ l. rw (lt-ltb a b l, lt-ltb c d (⊎_elim (λ m. m) (λ m. let n = k m in absurd (omega arith)) (cases_lt c d))))
    (λ l. rw (le-ltb a b l, le-ltb c d (h l))) (cases_lt a b)

zero_of : (y r : ℕ) → 0 < r → y * r ≤ 0 → y ≡ 0
zero_of zero r h e = refl
zero_of (suc k) r h e = let z : 0 < suc k = omega arith in let p : 0 < suc k * r = mul-pos z h in absurd (omega arith)

zero_by : (y p : ℕ) → y ≡ 0 → y * p ≡ 0
zero_by y p e = ap (λ n. n * p) e ∙ zero-mul p

no_less : (p P q Q r R : ℕ) → 0 < P → 0 < R → p * Q ≡ q * P → r * P + p * R ≤ 0 → r * Q + q * R ≤ 0
no_less p P q Q r R P⁺ R⁺ is h =
    let r0 = zero_by r Q (zero_of r P P⁺ (omega arith)) in
    let p0 = zero_by p Q (zero_of p R R⁺ (omega arith)) in
    let q0 = zero_by q R (zero_of q P P⁺ (omega arith)) in omega arith

-- p / P and q / Q are the same, and stand on the same side of r / R
module _ (p P q Q r R : ℕ) (P⁺ : 0 < P) (Q⁺ : 0 < Q) (R⁺ : 0 < R) (is : p * Q ≡ q * P) where
  same_side : (t s : Bool) → below t (r * P) s (p * R) ≡ below t (r * Q) s (q * R)
  same_side false false = ltb_same _ _ _ _ (through q p r Q P R P⁺ (omega arith)) (through p q r P Q R Q⁺ (omega arith))
  same_side false true = refl
  same_side true false = ltb_same 0 _ 0 _ (no_less p P q Q r R P⁺ R⁺ is) (no_less q Q p P r R Q⁺ R⁺ (sym is))
  same_side true true = ltb_same _ _ _ _ (λ h. through r p q R P Q P⁺ h (omega arith)) (λ h. through r q p R Q P Q⁺ h (omega arith))

  -- zero has either sign
  zero_side : (t s u : Bool) → p * Q ≡ 0 → below t (r * P) s (p * R) ≡ below t (r * Q) u (q * R)
  zero_side t s u z =
      let p0 = zero_by p R (zero_of p Q Q⁺ (omega arith)) in
      let q0 = zero_by q R (zero_of q P P⁺ (omega arith)) in same_side t s ∙ rw q0 (signs t s u)
    where
      signs : (t s u : Bool) → below t (r * Q) s 0 ≡ below t (r * Q) u 0
      signs false false false = refl
      signs false false true = grind (arith, nat_tests)
      signs false true false = grind (arith, nat_tests)
      signs false true true = refl
      signs true false false = refl
      signs true false true = grind (arith, nat_tests)
      signs true true false = grind (arith, nat_tests)
      signs true true true = refl

  equal_side : (t s u : Bool) → level s (p * Q) u (q * P) ≡ true → below t (r * P) s (p * R) ≡ below t (r * Q) u (q * R)
  equal_side t s u e = go s u (and_parts _ _ e).1
    where
      go : (s u : Bool) → (beq s u || p * Q == 0) ≡ true → below t (r * P) s (p * R) ≡ below t (r * Q) u (q * R)
      go false false h = same_side t false
      go true true h = same_side t true
      go false true h = zero_side t false true (eqb-true _ _ h)
      go true false h = zero_side t true false (eqb-true _ _ h)

equal_below : (f g x : Float) → eq f g ≡ true → lt x f ≡ lt x g
unfolding eq lt
equal_below nan g x e = absurd (clash e)
equal_below (inf s) nan x e = absurd (clash e)
equal_below (inf true) (inf true) x e = refl
equal_below (inf false) (inf false) x e = refl
equal_below (inf true) (inf false) x e = absurd (clash e)
equal_below (inf false) (inf true) x e = absurd (clash e)
equal_below (inf s) (fin u n c) x e = absurd (clash e)
equal_below (fin s m d) nan x e = absurd (clash e)
equal_below (fin s m d) (inf u) x e = absurd (clash e)
equal_below (fin s m d) (fin u n c) nan e = refl
equal_below (fin s m d) (fin u n c) (inf t) e = refl
equal_below (fin s m d) (fin u n c) (fin t k b) e =
    equal_side (m * up d) (down d) (n * up c) (down c) (k * up b) (down b) (down_pos d) (down_pos c) (down_pos b) (eqb-true _ _ (and_parts _ _ e).0) t s u e

pub equal_reaches : (f g : Float) → eq f g ≡ true → reaches f ≡ reaches g
equal_reaches f g e = fun_ext (λ x. ap (λ b. not (is_nan x) && not b) (equal_below f g x e))

-- a number equals itself
pub eq_itself : (x : Float) → is_nan x ≡ false → eq x x ≡ true
unfolding eq is_nan
eq_itself nan n = absurd (clash (sym n))
eq_itself (inf true) n = refl
eq_itself (inf false) n = refl
eq_itself (fin true m e) n = rw (eq-eqb (m * up e * down e) (m * up e * down e) refl)
eq_itself (fin false m e) n = rw (eq-eqb (m * up e * down e) (m * up e * down e) refl)
