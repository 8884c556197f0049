use Rattle.std.proofs.Common.{◌≡◌, suc, map, length, drop, vec_items, eqb}
use Rattle.std.specs.List.{slice_split}
use Rattle.recipes.specs.Lines.{recipes_from, told_of}
use Rattle.recipes.proofs.Lists.{ahead}
use Rattle.recipes.proofs.list.read_list.Given as goal

abbrev pub invariant-loop-i : goal.invariant-loop-i
invariant-loop-i l =
    let lines = slice_split (λ b. eqb b 10) l.text in
    recipes_from 1 lines ≡ ahead (map told_of (vec_items l.recipes)) (recipes_from (suc (length l.yielded)) (drop (length l.yielded) lines))
