-- The laws of a floor. Assumes nothing.
use Rattle.std.specs.Prelude.{◌≡◌, true, Float}
use Rattle.std.specs.Float.Ieee.{eq}
use Rattle.std.proofs.Common.{ap, rules}
use Rattle.collector.specs.Counts.{counting, floor_m}
use Rattle.collector.specs.Meaning.{Laws}
use Rattle.collector.specs.ScoresLemmas.{equal_reaches}

pub floor_lawful : (x : Float) → Laws (floor_m x)
floor_lawful x = search rules

pub floor_agree : (x y : Float) → eq x y ≡ true → floor_m x ≡ floor_m y
floor_agree x y e = ap (counting true) (equal_reaches x y e)
