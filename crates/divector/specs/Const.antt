-- The number of divector.rs that is no constant of `f64`'s operators.
use Rattle.std.specs.Prelude.{◌≡◌, false, pos, refl, Float}
use Rattle.std.specs.Float.{fin, binary64}
use Rattle.std.specs.Float.Ieee.{of_bits}

abbrev pub two64 : Float
two64 = of_bits binary64 0x4000_0000_0000_0000

pub constants : two64 ≡ fin false 1 (pos 1)
unfolding of_bits
constants = refl
