use Rattle.std.proofs.Common.{◌≡◌, ℕ, cond, length, Some, None, Ok, Err, Option, Result, sym, ap, ◌∙◌, MatchResult, arith, rules}
use Rattle.std.proofs.lemmas.Result.{err_from_is_err_and}
use Rattle.std.specs.Option.{option_map, option_or}
use Rattle.segment.specs.declared.fault.ColumnFault.{ColumnFault}
use Rattle.segment.specs.declared.segment_fault.SegmentFault.TheVariants.{Column, Name}
use Rattle.segment.specs.Columns.{asked}
use Rattle.segment.specs.Fields.{admits, kind_fault}
use Rattle.segment.proofs.Sounds.{asked_err}
use Rattle.segment.proofs.segment.check.check_field.Goals as goal

-- the fault that was carried is the one that was asked for
carried : {P : Unit {0} → Type 0} {Q : ColumnFault → Type 0} (r : Result (Unit {0}) ColumnFault) (o : Option ColumnFault) (m n : ℕ) (e : ColumnFault)
    → MatchResult r P Q → ((v : Unit {0}) → P v → ⊥) → ((f : ColumnFault) → Q f → (m ≡ n) × (e ≡ f)) → r ≡ asked o → (m ≡ n) × (o ≡ Some e)
carried (Ok u) o m n e h p q k = absurd (p u h)
carried (Err f) o m n e h p q k = let (a, b) = q f h in (a, asked_err o f k ∙ ap (λ x. Some x) (sym b))

pub returns-in_err-map_err : goal.returns-in_err-map_err
returns-in_err-map_err c =
    let fs = c.args.fields.now in
    let f = c.args.field.now in
    let p = err_from_is_err_and c.from_residual.result c.from_residual.ensures.1 in
    let at = c.in_err-map_err.field-0.0 in
    let k = carried c.check_kind.result (kind_fault f.kind) at.place (length fs) at.fault c.in_err-map_err.ensures.cases (λ v e. let z : ◌≡◌ {A = ℕ} 0 1 = cc in omega arith) (λ x q. search rules) c.check_kind.ensures in
    p.1 ∙ ap Err (p.2 ∙ (λ i. Column (k.0 i) at.fault))
    ∙ sym (λ i. asked (option_or (option_map (λ e. Column (length fs) e) (k.1 i)) (cond (admits fs f.name.now) None (Some (Name (length fs))))))
