use Rattle.std.proofs.Common.{◌≡◌, ℕ, ◌+◌, ◌-◌, ◌<◌, ◌≤◌, true, List, Option, Some, None, IfSome, Bor, length, get_or, refl, sym, subst, arith, ltb-true}
use Rattle.std.specs.Slice.{IsItemAt}
use Rattle.std.specs.Option.{option_copied}
use Rattle.utf8.specs.Rows.{row_says}
use Rattle.utf8.specs.declared.Row.{Row}
use Rattle.utf8.specs.declared.TheConstants.{ROWS}
use Rattle.utf8.proofs.Table.{every, at}
use Rattle.utf8.proofs.row_of.Goals as goal

row_in : (o : Option (Bor Row)) (xs : List Row) (k b : ℕ) → IsItemAt xs k o → 194 ≤ b → k ≡ b - 194 → every row_says 194 xs ≡ true → IfSome (option_copied o) (λ r. row_says b r ≡ true)
row_in None xs k b e l p t = tt
row_in (Some x) xs k b e l p t =
    let h : k < length xs = ltb-true k (length xs) (sym e.0) in
    let q : 194 + k ≡ b = omega arith in
    subst (λ (r : Row). row_says b r ≡ true) (sym e.1) (subst (λ (n : ℕ). row_says n (get_or xs k x.now) ≡ true) q (at row_says xs x.now 194 t k h))

pub returns-clause-row : goal.returns-clause-row
returns-clause-row c = rw c.copied.ensures (row_in _ ROWS _ _ c.get.ensures.lookup c.in_ok-place.ensures.0 c.in_ok-place.ensures.1 refl)
