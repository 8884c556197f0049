use Rattle.std.proofs.Common.{◌≡◌, length}
use Rattle.utf8.specs.Octets.{utf8}
use Rattle.utf8.proofs.is_utf8.Given as goal

abbrev pub invariant-loop-left : goal.invariant-loop-left
invariant-loop-left l = utf8 l.left ≡ utf8 l.bytes

abbrev pub decreases-loop-left : goal.decreases-loop-left
decreases-loop-left l = length l.left
