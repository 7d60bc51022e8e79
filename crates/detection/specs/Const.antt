-- The number that `detect_and_modify` writes itself. A literal of the source is `of_bits` of its pattern; `constants` says which number it is.
use Rattle.std.specs.Prelude.{◌≡◌, refl, false, pos, Float}
use Rattle.std.specs.Float.{fin, binary32}
use Rattle.std.specs.Float.Ieee.{of_bits}

abbrev pub zero32 : Float
zero32 = of_bits binary32 0

pub constants : zero32 ≡ fin false 0 (pos 0)
unfolding of_bits
constants = refl
