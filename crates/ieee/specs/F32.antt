-- Rust's operators on `f32` as it writes them, each marked with the width: each step is rounded (`lib.Ieee`). F64 has the same for `f64`. Without the mark an
-- operator is the library's, of whole numbers.
use Rattle.std.specs.Prelude.{◌≡◌, Bool, false, pos, refl, Float}
use Rattle.std.specs.Float.Ieee as Ieee
use Rattle.std.specs.Float.{fin, binary32}
use Rattle.std.specs.Float.Ieee.{of_bits}

infix 50 ◌<₃₂◌ ◌<=₃₂◌ ◌>₃₂◌ ◌>=₃₂◌ ◌==₃₂◌ ◌!=₃₂◌
infixl 65 ◌+₃₂◌ ◌-₃₂◌
infixl 70 ◌*₃₂◌ ◌/₃₂◌
abbrev pub ◌+₃₂◌ : Float → Float → Float
a +₃₂ b = Ieee.add binary32 a b

abbrev pub ◌-₃₂◌ : Float → Float → Float
a -₃₂ b = Ieee.sub binary32 a b

abbrev pub ◌*₃₂◌ : Float → Float → Float
a *₃₂ b = Ieee.mul binary32 a b

abbrev pub ◌/₃₂◌ : Float → Float → Float
a /₃₂ b = Ieee.div binary32 a b

-- Comparisons: with NaN each is false but `!=`.
abbrev pub ◌<₃₂◌ : Float → Float → Bool
a <₃₂ b = Ieee.lt a b

abbrev pub ◌<=₃₂◌ : Float → Float → Bool
a <=₃₂ b = Ieee.le a b

abbrev pub ◌>₃₂◌ : Float → Float → Bool
a >₃₂ b = Ieee.lt b a

abbrev pub ◌>=₃₂◌ : Float → Float → Bool
a >=₃₂ b = Ieee.le b a

abbrev pub ◌==₃₂◌ : Float → Float → Bool
a ==₃₂ b = Ieee.eq a b

abbrev pub ◌!=₃₂◌ : Float → Float → Bool
a !=₃₂ b = Ieee.ne a b

-- A literal of the source is `of_bits` of its pattern; `constants` says which number each one is.
abbrev pub zero32 : Float
zero32 = of_bits binary32 0

abbrev pub one32 : Float
one32 = of_bits binary32 0x3F80_0000

pub constants : (zero32 ≡ fin false 0 (pos 0)) × (one32 ≡ fin false 1 (pos 0))
unfolding of_bits
constants = (refl, refl)
