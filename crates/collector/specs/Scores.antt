-- Scores that reach a floor. Assumes nothing.
use Rattle.std.specs.Prelude.{Bool, not, ◌&&◌, is_nan, Float}
use Rattle.std.specs.Float.Ieee.{lt}

-- the score is a number and not below the floor
abbrev pub reaches : Float → Float → Bool
reaches floor x = not (is_nan x) && not (lt x floor)
