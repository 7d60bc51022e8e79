-- util.rs: the larger and the smaller of two numbers, and the size of one, each by one comparison. A comparison with NaN is false.
use Rattle.std.specs.Prelude.{cond, Float}
use Rattle.std.specs.Float.Ieee as Ieee
use Rattle.std.specs.Float.Ieee.{of_bits}
use Rattle.std.specs.Float.{binary32}

-- b where a < b, else a: a where either is NaN.
unfoldable pub maxf32 : Float → Float → Float
maxf32 a b = cond (Ieee.lt a b) b a

-- a where a < b, else b: b where either is NaN.
unfoldable pub minf32 : Float → Float → Float
minf32 a b = cond (Ieee.lt a b) a b

-- minus a where a is below 0, else a: minus zero and NaN stay.
unfoldable pub absf32 : Float → Float
absf32 a = cond (Ieee.lt a (of_bits binary32 0)) (Ieee.neg a) a
