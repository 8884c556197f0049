use Rattle.std.proofs.Common.{◌≡◌, ℕ, ◌-◌, ◌<◌, Bool}
use Rattle.segment.specs.Items.{first_failing}
use Rattle.segment.proofs.first.all_pass.Given as goal

abbrev pub invariant-loop-place : goal.invariant-loop-place
invariant-loop-place g l = (test : ℕ → Bool) → ((i : ℕ) (b : Bool) → i < l.count → goal.F-post g l.passes i b → b ≡ test i) → first_failing test 0 l.count ≡ first_failing test l.place (l.count - l.place)
