-- The numbers that these steps write. A literal of the source is `of_bits` of its pattern; `constants` says which number each one is.
use Rattle.std.specs.Prelude.{◌≡◌, false, refl, Float}
use Rattle.std.specs.Float.Ieee.{of_bits, round}
use Rattle.std.specs.Float.{binary32}
pub use Rattle.ieee.specs.F32.{zero32, one32}

abbrev pub two32 : Float
two32 = of_bits binary32 0x4000_0000

abbrev pub ten32 : Float
ten32 = of_bits binary32 0x4120_0000

abbrev pub sixteen32 : Float
sixteen32 = of_bits binary32 0x4180_0000

abbrev pub twenty32 : Float
twenty32 = of_bits binary32 0x41A0_0000

abbrev pub tenth32 : Float
tenth32 = of_bits binary32 0x3DCC_CCCD

pub constants :
    (two32 ≡ round binary32 false 2 1)
    × (ten32 ≡ round binary32 false 10 1)
    × (sixteen32 ≡ round binary32 false 16 1)
    × (twenty32 ≡ round binary32 false 20 1)
    × (tenth32 ≡ round binary32 false 1 10)
unfolding of_bits round
constants = (refl, refl, refl, refl, refl)
