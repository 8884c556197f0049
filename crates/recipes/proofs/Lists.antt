-- What is read one after the other. Assumes nothing.
use Rattle.std.proofs.Common.{◌≡◌, List, [], ◌∷◌, ◌++◌, Ok, Err, Result, sym, refl, ap, ◌∙◌, subst, append_assoc, append-nil}
use Rattle.std.proofs.lemmas.Result.{err_from_is_err_and}
use Rattle.std.specs.Result.{IsErrAnd}
use Rattle.recipes.specs.declared.fault.ListFault.{ListFault}
use Rattle.recipes.specs.declared.fault.ListFault.TheVariants.{Line, Memory}
use Rattle.recipes.specs.Lines.{Refusal, told_by, first, Answers}

module _ {X : Type 0} where
  -- what was read, and then the rest
  abbrev pub ahead : List X → Result (List X) Refusal → Result (List X) Refusal
  ahead xs (Ok ys) = Ok (xs ++ ys)
  ahead xs (Err e) = Err e

  pub ahead_none : (r : Result (List X) Refusal) → r ≡ ahead [] r
  ahead_none (Ok ys) = refl
  ahead_none (Err e) = refl

  -- one more was read
  pub ahead_first : (xs : List X) (x : X) (r : Result (List X) Refusal) → ahead xs (first (Ok x) r) ≡ ahead (xs ++ x ∷ []) r
  ahead_first xs x (Ok ys) = ap (λ (l : List X). Ok l) (sym (append_assoc xs (x ∷ []) ys))
  ahead_first xs x (Err e) = refl

  pub ahead_all : (xs : List X) → ahead xs (Ok []) ≡ Ok xs
  ahead_all xs = ap (λ (l : List X). Ok l) (append-nil xs)

-- where a part is refused, so is the whole, and memory that is wanting is said of either
pub passes_on : {X Y W Z : Type 0} (f : Y → X) (g : Z → W) (part : Result X Refusal) (all : Result W Refusal) → ((e : Refusal) → part ≡ Err e → all ≡ Err e) → (e : ListFault) (r : Result Z ListFault)
    → Answers f part (Err e) → IsErrAnd r (λ z. z ≡ e) → Answers g all r
passes_on f g part all h (Line l) r a q = let p = err_from_is_err_and r q in subst (Answers g all) (sym (p.1 ∙ ap (λ z. Err z) p.2)) (h (told_by l) a)
passes_on f g part all h Memory r a q = let p = err_from_is_err_and r q in subst (Answers g all) (sym (p.1 ∙ ap (λ z. Err z) p.2)) tt
