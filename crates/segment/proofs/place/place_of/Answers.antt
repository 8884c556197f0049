use Rattle.std.proofs.Common.{◌≡◌, ℕ, zero, suc, ◌<◌, Bool, true, false, not, List, [], ◌∷◌, length, get_or, take, sym, refl, ap, ◌∙◌, le_of_suc-le-suc, arith, take_all}
use Rattle.std.proofs.lemmas.Slice.Eq.{bytes_eq-Decides}
use Rattle.std.proofs.lemmas.List.{take_more_same}
use Rattle.std.specs.Str.{bytes_eq}
use Rattle.segment.specs.declared.field.Field.{Field}
use Rattle.segment.specs.Fields.{name_at}
use Rattle.segment.proofs.Firsts.{at_place}
use Rattle.segment.proofs.place.place_of.Goals as goal
use Rattle.segment.proofs.place.place_of.Goals.{then-field-name+else-k-name+then-field-k, else-field-name}

name_is : (fs : List Field) (k : ℕ) (d : Field) → k < length fs → name_at fs k ≡ (get_or fs k d).name.now
name_is [] k d h = absurd (omega arith)
name_is (f ∷ fs) zero d h = refl
name_is (f ∷ fs) (suc k) d h = name_is fs k d (le_of_suc-le-suc h)

whole : (xs ys : List ℕ) (k : ℕ) → length xs ≡ length ys → k ≡ length ys → take k xs ≡ take k ys → xs ≡ ys
whole xs ys k l e p = sym (take_all k xs (omega arith)) ∙ p ∙ take_all k ys (omega arith)

as_long : (xs ys : List ℕ) → xs ≡ ys → length xs ≡ length ys
as_long xs ys e = ap (λ (zs : List ℕ). length zs) e

differ : (xs ys : List ℕ) → (xs ≡ ys → ⊥) → true ≡ not (bytes_eq xs ys)
differ xs ys n = cut (bytes_eq xs ys) refl
  where
    cut : (t : Bool) → bytes_eq xs ys ≡ t → true ≡ not t
    cut true e = absurd (n ((bytes_eq-Decides xs ys).0 e))
    cut false e = refl

pub bytes-preserved : goal.bytes-preserved
bytes-preserved c = (omega arith, take_more_same _ _ c.bytes.k 0 (omega arith) (omega arith) c.bytes.invariant.1 c.if-field-k.false)

pub fields-preserved : goal.fields-preserved
fields-preserved c =
    let i = c.fields.i in
    let h : i < length c.args.fields.now = omega arith in (
      omega arith,
      c.fields.invariant.1 ∙ at_place _ i _ true h (differ _ _
          (λ e. let p = sym (name_is c.args.fields.now i _ h) ∙ e in
          elim c.if-field-name.branch [
            | then-field-name+else-k-name+then-field-k w ↦ w.if-field-k.true (ap (λ (xs : List ℕ). get_or xs w.bytes.k 0) p)
            | else-field-name w ↦ omega (arith, as_long _ _ p)
          ])),
    )

pub returns-then-k-name : goal.returns-then-k-name
returns-then-k-name c =
    let i = c.fields.i in
    let h : i < length c.args.fields.now = omega arith in
    let e = name_is c.args.fields.now i _ h ∙ whole _ _ c.bytes.k (omega arith) (omega arith) c.bytes.invariant.1 in
    sym (c.fields.invariant.1 ∙ at_place _ i _ false h (sym (ap not ((bytes_eq-Decides _ _).1 e))))
