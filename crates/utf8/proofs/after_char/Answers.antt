use Rattle.std.proofs.Common.{◌≡◌, ◌-◌, ◌≤◌, ℕ, true, false, ◌&&◌, List, length, get_or, take, drop, IfSome, sym, ◌∙◌, subst, arith}
use Rattle.std.proofs.lemmas.Bool.Decides.{nat_tests}
use Rattle.std.proofs.lemmas.List.{take_rest}
use Rattle.utf8.specs.declared.Row.{Row}
use Rattle.utf8.specs.Octets.{span, within, octets, utf8}
use Rattle.utf8.specs.Rows.{lead, row_says, tails}
use Rattle.utf8.proofs.Steps.{ascii, second}
use Rattle.utf8.proofs.after_char.Goals as goal

-- the bytes behind the second are what the row says
follows : (xs : List ℕ) (r : Row) → 2 ≤ length xs → lead (get_or xs 0 0) ≡ true → row_says (get_or xs 0 0) r ≡ true → within (span r.low r.high) (get_or xs 1 0) ≡ true
    → utf8 xs ≡ octets (tails r.len) (take (length xs - 2) (drop 2 xs))
follows xs r h l s w = second xs r h l s ∙ (λ i. w i && octets (tails r.len) (sym (take_rest xs 2) i))

pub returns-then-not-contains-clause-none : goal.returns-then-not-contains-clause-none
returns-then-not-contains-clause-none c z =
    let row = c.in_ok-row-in-len2-up in
    let e = second c.args.bytes.now row.row c.in-len2-up.len_at_least row.ensures.some row.ensures.row in
    let w : within (span row.row.low row.row.high) (get_or c.args.bytes.now 1 0) ≡ false = grind (arith, nat_tests) in
    e ∙ (λ i. w i && octets (tails row.row.len) (drop 2 c.args.bytes.now))

pub returns-in-len1-up-clause-same : goal.returns-in-len1-up-clause-same
returns-in-len1-up-clause-same c = simp take_rest (ascii c.args.bytes.now c.requires (grind (arith, nat_tests)))

pub returns-else-not-contains-clause-none : goal.returns-else-not-contains-clause-none
returns-else-not-contains-clause-none c n =
    let row = c.in_ok-row-in-len2-up in
    follows _ row.row c.in-len2-up.len_at_least row.ensures.some row.ensures.row (grind (arith, nat_tests)) ∙ c.after_tails.ensures.none n

pub returns-else-not-contains-clause-same : goal.returns-else-not-contains-clause-same
returns-else-not-contains-clause-same c =
    let row = c.in_ok-row-in-len2-up in
    subst (λ t. IfSome c.after_tails.result (λ rest. t ≡ utf8 rest.now))
    (sym (follows _ row.row c.in-len2-up.len_at_least row.ensures.some row.ensures.row (grind (arith, nat_tests)))) c.after_tails.ensures.same
