-- What it means that an `f32` is the nearest to a decimal, a tie going to the even one: in whole numbers alone, without the way in which it is worked out.
-- A finite float x is num x / den x in size, two whole numbers. `fits f x` says that the format f holds x, `finite x` that x is neither an infinity nor a NaN,
-- and `HasValue x false a c` that x is finite, not below zero, and a / c.
use Rattle.std.specs.Prelude.{◌≡◌, ℕ, ◌+◌, ◌-◌, ◌*◌, ◌%◌, ◌^◌, ◌≤◌, ◌<◌, false, T, Float}
use Rattle.std.specs.Float.{Format, binary32}
use Rattle.std.specs.Float.Ieee.{fits, round, to_bits}
use Rattle.std.specs.Float.Ieee.Exact.{HasValue}
use Rattle.std.specs.Float.Ieee.Scale.{finite}
use Rattle.std.specs.Float.Ieee.Positive.{num, den}

-- How far two whole numbers are apart.
abbrev pub apart : ℕ → ℕ → ℕ
apart a b = a - b + (b - a)

-- x stands for n / d. The format holds it; no value y that the format holds is nearer to n / d than x; and where another value is as near, the last digit of x is
-- even. "x is as near as y" is |x - n / d| ≤ |y - n / d|, both sides multiplied by d, den x and den y, so that only whole numbers are compared.
-- (For a y below zero its size is compared, which is no further from n / d than y.)
pub record Nearest (f : Format) (n d : ℕ) (x : Float) : Type 0 where
  pub held : T (fits f x)
  pub value : HasValue x false (num x) (den x)
  pub closest : (y : Float) → T (fits f y) → T (finite y) → apart (num x * d) (n * den x) * den y ≤ apart (num y * d) (n * den y) * den x
  pub even : (y : Float) → T (fits f y) → T (finite y) → (num x * den y ≡ num y * den x → ⊥)
      → apart (num x * d) (n * den x) * den y ≡ apart (num y * d) (n * den y) * den x → to_bits f x % 2 ≡ 0

-- Whatever n of 32 bits and however many of six places: n / 10 ^ k is rounded to the `f32` that is nearest to it, a tie to the even one.
abbrev pub NearestDecimal : Type 0
NearestDecimal = (n k : ℕ) → n < 2 ^ 32 → k ≤ 6 → Nearest binary32 n (10 ^ k) (round binary32 false n (10 ^ k))
