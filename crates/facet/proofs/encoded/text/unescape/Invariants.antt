use Rattle.std.proofs.Common.{false, replicate}
use Rattle.facet.specs.Text.{unescaped}
use Rattle.facet.proofs.Bytes.{Filled}
use Rattle.facet.proofs.encoded.text.unescape.Given as goal

abbrev pub invariant-loop-b : goal.invariant-loop-b
invariant-loop-b l = Filled (unescaped false l.text) (replicate 127 0) l.bytes l.len (unescaped false l.b-iterator.left.now)
