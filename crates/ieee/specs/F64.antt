-- Rust's operators on `f64` as it writes them, each marked with the width: each step is rounded (`lib.Ieee`). F32 has the same for `f32`.
use Rattle.std.specs.Prelude.{◌≡◌, Bool, false, pos, refl, Float}
use Rattle.std.specs.Float.Ieee as Ieee
use Rattle.std.specs.Float.{fin, binary64}
use Rattle.std.specs.Float.Ieee.{of_bits}

infix 50 ◌<₆₄◌ ◌<=₆₄◌ ◌>₆₄◌ ◌>=₆₄◌ ◌==₆₄◌ ◌!=₆₄◌
infixl 65 ◌+₆₄◌ ◌-₆₄◌
infixl 70 ◌*₆₄◌ ◌/₆₄◌
abbrev pub ◌+₆₄◌ : Float → Float → Float
a +₆₄ b = Ieee.add binary64 a b

abbrev pub ◌-₆₄◌ : Float → Float → Float
a -₆₄ b = Ieee.sub binary64 a b

abbrev pub ◌*₆₄◌ : Float → Float → Float
a *₆₄ b = Ieee.mul binary64 a b

abbrev pub ◌/₆₄◌ : Float → Float → Float
a /₆₄ b = Ieee.div binary64 a b

-- Comparisons: with NaN each is false but `!=`.
abbrev pub ◌<₆₄◌ : Float → Float → Bool
a <₆₄ b = Ieee.lt a b

abbrev pub ◌<=₆₄◌ : Float → Float → Bool
a <=₆₄ b = Ieee.le a b

abbrev pub ◌>₆₄◌ : Float → Float → Bool
a >₆₄ b = Ieee.lt b a

abbrev pub ◌>=₆₄◌ : Float → Float → Bool
a >=₆₄ b = Ieee.le b a

abbrev pub ◌==₆₄◌ : Float → Float → Bool
a ==₆₄ b = Ieee.eq a b

abbrev pub ◌!=₆₄◌ : Float → Float → Bool
a !=₆₄ b = Ieee.ne a b

-- A literal of the source is `of_bits` of its pattern; `constants` says which number each one is.
abbrev pub zero64 : Float
zero64 = of_bits binary64 0

abbrev pub one64 : Float
one64 = of_bits binary64 0x3FF0_0000_0000_0000

pub constants : (zero64 ≡ fin false 0 (pos 0)) × (one64 ≡ fin false 1 (pos 0))
unfolding of_bits
constants = (refl, refl)
