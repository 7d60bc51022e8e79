-- Fractions over whole numbers: none is negative, none is rounded, none is reduced. Definitions only.
use Rattle.std.specs.Prelude.{◌≡◌, Bool, true, false, cond, ℕ, ◌+◌, ◌-◌, ◌*◌, ◌≤◌, ◌<◌, pos, leb, Float}
use Rattle.std.specs.Float.{nan, inf, fin}
use Rattle.std.specs.Float.Ieee.Positive.{num as num_of, den as den_of}

pub record Fraction : Type 0 where
  pub num : ℕ
  pub den : ℕ

abbrev pub over : ℕ → ℕ → Fraction
over a b = record { num = a; den = b }

abbrev pub none : Fraction
none = over 0 1

abbrev pub unit : Fraction
unit = over 1 1

abbrev pub plus : Fraction → Fraction → Fraction
plus x y = over (x.num * y.den + y.num * x.den) (x.den * y.den)

-- x - y, and 0 where y is the larger.
abbrev pub minus : Fraction → Fraction → Fraction
minus x y = over (x.num * y.den - y.num * x.den) (x.den * y.den)

abbrev pub times : Fraction → Fraction → Fraction
times x y = over (x.num * y.num) (x.den * y.den)

abbrev pub divided_by : Fraction → Fraction → Fraction
divided_by x y = over (x.num * y.den) (x.den * y.num)

-- x / k for a whole number k: M/2048 is `part M 2048`.
abbrev pub part : Fraction → ℕ → Fraction
part x k = over x.num (x.den * k)

-- x ≤ y, x < y and x = y, by whole numbers.
abbrev pub Le : Fraction → Fraction → Type 0
Le x y = x.num * y.den ≤ y.num * x.den

abbrev pub Lt : Fraction → Fraction → Type 0
Lt x y = x.num * y.den < y.num * x.den

abbrev pub Same : Fraction → Fraction → Type 0
Same x y = x.num * y.den ≡ y.num * x.den

abbrev pub smaller : Fraction → Fraction → Fraction
smaller x y = cond (leb (x.num * y.den) (y.num * x.den)) x y

abbrev pub larger : Fraction → Fraction → Fraction
larger x y = cond (leb (x.num * y.den) (y.num * x.den)) y x

-- The exact fraction that a float's bits mean, its sign left out: m * 2 ^ e for the float `fin s m e`. Only floats that are `plain` are read so, and zeros.
abbrev pub fraction_of : Float → Fraction
fraction_of x = over (num_of x) (den_of x)

-- A number, not NaN and no infinity, with the sign plus.
abbrev pub plain : Float → Bool
plain nan = false
plain (inf s) = false
plain (fin true m e) = false
plain (fin false m e) = true

-- Plus zero: the score 0 and the grade 0.
abbrev pub plus_zero : Float
plus_zero = fin false 0 (pos 0)
