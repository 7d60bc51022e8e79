-- The numbers of the candidate branch. A literal of the source is `of_bits` of its pattern; `constants` says which number each one is.
use Rattle.std.specs.Prelude.{◌≡◌, false, pos, refl, Float}
use Rattle.std.specs.Float.{fin, binary32}
use Rattle.std.specs.Float.Ieee.{of_bits, round}

abbrev pub one32 : Float
one32 = of_bits binary32 0x3F80_0000

abbrev pub two32 : Float
two32 = of_bits binary32 0x4000_0000

abbrev pub ten32 : Float
ten32 = of_bits binary32 0x4120_0000

abbrev pub tenth32 : Float
tenth32 = of_bits binary32 0x3DCC_CCCD

abbrev pub fifth32 : Float
fifth32 = of_bits binary32 0x3E4C_CCCD

-- NOISE_FACTOR
abbrev pub noise_factor : Float
noise_factor = one32

pub constants :
    (one32 ≡ fin false 1 (pos 0))
    × (two32 ≡ round binary32 false 2 1)
    × (ten32 ≡ round binary32 false 10 1)
    × (tenth32 ≡ round binary32 false 1 10)
    × (fifth32 ≡ round binary32 false 1 5)
unfolding of_bits round
constants = (refl, refl, refl, refl, refl)
