-- The constant of the trigger, as the bit pattern that the source's literal is.
use Rattle.std.specs.Prelude.{◌≡◌, false, refl, Float}
use Rattle.std.specs.Float.{binary32}
use Rattle.std.specs.Float.Ieee.{of_bits, round}

-- DEFAULT_DIFFERENTIAL_FACTOR
abbrev pub factor32 : Float
factor32 = of_bits binary32 0x3E99_999A

pub constants : factor32 ≡ round binary32 false 3 10
unfolding of_bits round
constants = refl
