-- "A higher score never earns a lower grade": what this crate proves. The quoted words are document 02's. Definitions only.
use Rattle.std.specs.Prelude.{ℕ, ◌≡◌, not, T, Float}
use Rattle.std.specs.Float.Ieee.{lt, le, eq, is_nan}
use Rattle.types.specs.declared.TransformMethod.{TransformMethod}
use Rattle.basicthresholder.specs.Const.{zero32}
use Rattle.basicthresholder.specs.Grades.{computed_threshold, threshold_and_grade_with_factor, primary_grade}
use Rattle.basicthresholder.specs.declared.BasicThresholder.{BasicThresholder}
use Rattle.basicthresholder.specs.declared.Graded.{Graded}
use Rattle.grade_order.specs.Sixteenths.{Sixteenths}
use Rattle.grade_order.specs.Statement.{Scores}
use Rattle.grades.specs.Reached.{Reached}
use Rattle.grades.specs.Needed.{Needed}

-- The grade from `threshold_and_grade_with_factor`.
abbrev pub grade : BasicThresholder → Float → Float → TransformMethod → ℕ → Float
grade s score factor method shingle_size = (threshold_and_grade_with_factor s score factor method shingle_size).grade

-- What is said of two calls of `threshold_and_grade_with_factor` on s that answered a for the score x and b for y.
abbrev pub InOrder : BasicThresholder → Float → Float → Graded → Graded → Type 0
InOrder s x y a b = Reached s → T (not (is_nan s.initial_threshold)) → T (le x y) → T (le a.grade b.grade)

pub record HigherScores : Type 0 where
  -- "The larger score's grade is at least the smaller's": x ≤ y, so that neither is NaN, both f32 (`Scores`); "all other inputs equal", whatever they are. Of the
  -- thresholds only the initial one must not be NaN; document 02 asks it of the absolute one too.
  pub rises : (s : BasicThresholder) → Reached s → T (not (is_nan s.initial_threshold)) → (x y : Float) → Scores x y
      → (factor : Float) (method : TransformMethod) (shingle_size : ℕ) → T (le (grade s x factor method shingle_size) (grade s y factor method shingle_size))
  -- "For all states and inputs, NaN included, that grade is k/16 with k whole from 0 to 16": k is `sixteenths_of` the grade.
  pub sixteenths : (s : BasicThresholder) (score factor : Float) (method : TransformMethod) (shingle_size : ℕ) → Sixteenths (grade s score factor method shingle_size)
  -- "It is 0 if the score is below the computed threshold or that threshold is 0."
  pub below : (s : BasicThresholder) (score factor : Float) (method : TransformMethod) (shingle_size : ℕ)
      → T (lt score (computed_threshold s factor method shingle_size)) → grade s score factor method shingle_size ≡ zero32
  pub at_zero : (s : BasicThresholder) (score factor : Float) (method : TransformMethod) (shingle_size : ℕ)
      → T (eq (computed_threshold s factor method shingle_size) zero32) → grade s score factor method shingle_size ≡ zero32
  -- All that "reached by calls" gives: the thresholder's count is its primary statistic's. A state in which it is has the first part too.
  pub counts : (s : BasicThresholder) → Reached s → s.primary_deviation.count ≡ s.count
  pub rises_by_counts : (s : BasicThresholder) → s.primary_deviation.count ≡ s.count → T (not (is_nan s.initial_threshold)) → (x y : Float) → Scores x y
      → (factor : Float) (method : TransformMethod) (shingle_size : ℕ) → T (le (grade s x factor method shingle_size) (grade s y factor method shingle_size))
  -- DISTANCE's grade rises likewise, of every state and whatever its thresholds.
  pub distance_rises : (s : BasicThresholder) (x y : Float) → T (le x y) → T (le (primary_grade s x) (primary_grade s y))
  -- What does not hold.
  pub needed : Needed
