use Rattle.std.proofs.Common.{◌≡◌, suc, length, drop, vec_items, eqb}
use Rattle.std.specs.List.{slice_split}
use Rattle.recipes.specs.Lines.{facets_from}
use Rattle.recipes.proofs.Lists.{ahead}
use Rattle.recipes.proofs.line.read_line.Given as goal

abbrev pub invariant-loop-field : goal.invariant-loop-field
invariant-loop-field l =
    let fields = slice_split (λ b. eqb b 9) l.line in
    facets_from l.number 1 (drop 1 fields) ≡ ahead (vec_items l.facets) (facets_from l.number (suc (length l.yielded)) (drop (suc (length l.yielded)) fields))
