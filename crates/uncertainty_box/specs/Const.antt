-- The f32 constants of the source. A literal is `of_bits` of its pattern; `constants` says which number each one is.
use Rattle.std.specs.Prelude.{◌≡◌, false, pos, refl, Float}
use Rattle.std.specs.Float.{fin, binary32}
use Rattle.std.specs.Float.Ieee.{of_bits, round}

abbrev pub zero32 : Float
zero32 = of_bits binary32 0

abbrev pub one : Float
one = of_bits binary32 0x3F80_0000

abbrev pub three : Float
three = of_bits binary32 0x4040_0000

-- DEFAULT_NORMALIZATION_PRECISION
abbrev pub precision : Float
precision = of_bits binary32 0x3A83_126F

-- NOISE_FACTOR
abbrev pub noise_factor : Float
noise_factor = one

-- DEFAULT_SAMPLING_SUPPORT
abbrev pub sampling_support : Float
sampling_support = of_bits binary32 0x3DCC_CCCD

pub constants :
    (zero32 ≡ fin false 0 (pos 0))
    × (one ≡ fin false 1 (pos 0))
    × (three ≡ fin false 3 (pos 0))
    × (precision ≡ round binary32 false 1 1000)
    × (sampling_support ≡ round binary32 false 1 10)
unfolding of_bits round
constants = (refl, refl, refl, refl, refl)
