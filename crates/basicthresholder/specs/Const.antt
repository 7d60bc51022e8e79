-- The numbers that basicthresholder.rs writes, but for a new state's z. A literal of the source is `of_bits` of its pattern; `constants` and `defaults` say which number each one is.
use Rattle.std.specs.Prelude.{◌≡◌, false, refl, Float}
use Rattle.std.specs.Float.Ieee.{of_bits, round}
use Rattle.std.specs.Float.{binary32, binary64}
use Rattle.ieee.specs.Round.{sqrt, isqrt}
pub use Rattle.grading.specs.Const.{zero32, one32, two32, ten32, sixteen32, twenty32, tenth32}

abbrev pub two64 : Float
two64 = of_bits binary64 0x4000_0000_0000_0000

-- f64::sqrt(2.0)
abbrev pub root_of_two : Float
root_of_two = of_bits binary64 0x3FF6_A09E_667F_3BCD

-- The defaults, by the Rust's names; z is document 02's (A5), the Rust's is 3.
abbrev pub elasticity_default : Float
elasticity_default = of_bits binary32 0x3C23_D70A

abbrev pub score_differencing_default : Float
score_differencing_default = of_bits binary32 0x3F00_0000

abbrev pub absolute_threshold_default : Float
absolute_threshold_default = of_bits binary32 0x3F4C_CCCD

abbrev pub absolute_score_fraction_default : Float
absolute_score_fraction_default = of_bits binary32 0x3F00_0000

abbrev pub initial_threshold_default : Float
initial_threshold_default = of_bits binary32 0x3FC0_0000

abbrev pub z_factor_default : Float
z_factor_default = of_bits binary32 0x4020_0000

abbrev pub factor_adjustment_threshold_default : Float
factor_adjustment_threshold_default = of_bits binary32 0x3F66_6666

pub constants : (two64 ≡ round binary64 false 2 1) × (root_of_two ≡ sqrt two64)
unfolding of_bits round sqrt isqrt
constants = (refl, refl)

pub defaults :
    (elasticity_default ≡ round binary32 false 1 100)
    × (score_differencing_default ≡ round binary32 false 1 2)
    × (absolute_threshold_default ≡ round binary32 false 8 10)
    × (absolute_score_fraction_default ≡ round binary32 false 1 2)
    × (initial_threshold_default ≡ round binary32 false 3 2)
    × (z_factor_default ≡ round binary32 false 5 2)
    × (factor_adjustment_threshold_default ≡ round binary32 false 9 10)
unfolding of_bits round
defaults = (refl, refl, refl, refl, refl, refl, refl)
