-- The steps of a grade rise with the score: what this crate proves. Definitions only.
use Rattle.std.specs.Prelude.{Bool, true, false, not, T, Float}
use Rattle.std.specs.Float.{binary32}
use Rattle.std.specs.Float.Ieee.{fits, sub, div, lt, le, eq, is_nan}
use Rattle.util.specs.Util.{maxf32}
use Rattle.grading.specs.Const.{zero32}
use Rattle.grading.specs.Grading.{at_least_minimum, surprise_index, grade_over}
use Rattle.grade_order.specs.Sixteenths.{Sixteenths, earned}

-- Two scores of f32, x at most y. A comparison with NaN is false, so neither is NaN.
pub record Scores (x y : Float) : Type 0 where
  pub order : T (le x y)
  pub first : T (fits binary32 x)
  pub second : T (fits binary32 y)

pub record StepsRise : Type 0 where
  -- No surprise is below 0, and what a number not below 0 earns is a whole number of sixteenths; so is 0, which is the least.
  pub surprise : (ready : Bool) (x t k d a : Float) → T (not (lt (surprise_index ready x t k d a) zero32))
  pub earns : (v : Float) → T (not (lt v zero32)) → Sixteenths (earned v)
  pub nothing : Sixteenths zero32
  pub least : (g : Float) → Sixteenths g → T (le zero32 g)
  -- Comparisons: a score that is at most one below t is below t; a grade from 0 to one that is 0 is 0.
  pub before : (x y t : Float) → T (le x y) → T (lt y t) → T (lt x t)
  pub none_between : (g h : Float) → T (le zero32 g) → T (le g h) → T (eq h zero32) → T (eq g zero32)
  -- With statistics, by any factor c and scaled deviation w: what a score at or over a threshold other than 0 earns.
  pub ready : (x y : Float) → T (le x y) → (t c w a : Float) → T (not (lt x t)) → T (not (eq t zero32))
      → T (le (earned (surprise_index true x t (at_least_minimum c) (div binary32 w (at_least_minimum c)) a))
      (earned (surprise_index true y t (at_least_minimum c) (div binary32 w (at_least_minimum c)) a)))
  -- Before, by the initial threshold i, which is not NaN, and the absolute threshold a: the same over the larger of the two.
  pub early : (x y : Float) → Scores x y → (i a : Float) → T (not (is_nan i)) → T (not (lt x (maxf32 i a))) → T (not (eq (maxf32 i a) zero32))
      → (k d : Float) → T (le (earned (surprise_index false x (maxf32 i a) k d a)) (earned (surprise_index false y (maxf32 i a) k d a)))
  -- The grade of DISTANCE, over any threshold t and deviation d: it is at least 0, and rises.
  pub distance_least : (z d : Float) → T (le zero32 (grade_over z d))
  pub distance : (x y : Float) → T (le x y) → (t d : Float) → T (le (grade_over (sub binary32 x t) d) (grade_over (sub binary32 y t) d))
