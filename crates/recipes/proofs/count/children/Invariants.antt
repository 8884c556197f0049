use Rattle.std.proofs.Common.{◌++◌, take}
use Rattle.recipes.specs.Counting.{Children}
use Rattle.recipes.specs.Recipes.{held_by}
use Rattle.std.specs.List.{flat_map}
use Rattle.recipes.proofs.count.children.Given as goal

abbrev pub invariant-loop-recipe : goal.invariant-loop-recipe
invariant-loop-recipe l = Children l.branch (flat_map held_by (take l.recipe-index l.recipes)) l.children.keys

abbrev pub invariant-loop-facet : goal.invariant-loop-facet
invariant-loop-facet l =
    Children l.branch (flat_map held_by (take l.recipe-index l.recipes) ++ take l.facet-index l.facet-items) l.children.keys
