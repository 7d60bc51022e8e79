-- A grade as a whole number of sixteenths. Definitions only.
use Rattle.std.specs.Prelude.{ℕ, ◌*◌, ◌/◌, ◌≤◌, ◌≡◌, false, cond, Float}
use Rattle.std.specs.Float.{nan, inf, fin, binary32}
use Rattle.std.specs.Float.Ieee.{up, down, round, lt}
use Rattle.std.specs.Float.Ieee.Exact.{HasValue}
use Rattle.grading.specs.Const.{zero32}
use Rattle.grading.specs.Grading.{sixteenths}

-- How many whole sixteenths a number's size has; none where it is NaN or an infinity.
abbrev pub sixteenths_of : Float → ℕ
sixteenths_of nan = 0
sixteenths_of (inf s) = 0
sixteenths_of (fin s m e) = m * up e * 16 / down e

-- g is k/16 with k whole from 0 to 16: its value, without rounding, and the one way in which it is written.
pub record Sixteenths (g : Float) : Type 0 where
  pub most : sixteenths_of g ≤ 16
  pub value : HasValue g false (sixteenths_of g) 16
  pub is : g ≡ round binary32 false (sixteenths_of g) 16

-- What a surprise earns: the grade above 0, or 0. These are the last lines of `threshold_and_grade_with_factor`.
abbrev pub earned : Float → Float
earned surprise = cond (lt zero32 (sixteenths surprise)) (sixteenths surprise) zero32
