-- The constants of expected_point, as the bit patterns that the source's literals are.
use Rattle.std.specs.Prelude.{◌≡◌, refl, ℕ, false, pos, negsuc, Float}
use Rattle.std.specs.Float.{fin, binary64}
use Rattle.std.specs.Float.Ieee.{of_bits}

abbrev pub half64 : Float
half64 = of_bits binary64 0x3FE0_0000_0000_0000

abbrev pub five64 : Float
five64 = of_bits binary64 0x4014_0000_0000_0000

-- DEFAULT_NUMBER_OF_MAX_ATTRIBUTORS
abbrev pub max_attributors : ℕ
max_attributors = 5

pub constants : (half64 ≡ fin false 1 (negsuc 0)) × (five64 ≡ fin false 5 (pos 0))
unfolding of_bits
constants = (refl, refl)
