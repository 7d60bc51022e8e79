-- A higher score never earns a lower grade, over C: what this crate proves. Definitions only.
use Rattle.std.specs.Prelude.{ℕ, ◌≡◌, false, not, List, T, length, Float, Ok}
use Rattle.std.specs.Float.Ieee.{le, lt, eq, is_nan}
use Rattle.types.specs.Codes.{method_of}
use Rattle.types.specs.declared.TransformMethod.{TransformMethod}
use Rattle.deviation.specs.Const.{zero64}
use Rattle.basicthresholder.specs.Const.{zero32, one32, two32}
use Rattle.basicthresholder.specs.Grades.{computed_threshold}
use Rattle.basicthresholder.specs.Updates.{fresh_thresholder}
use Rattle.basicthresholder.specs.declared.BasicThresholder.{BasicThresholder}
use Rattle.grade_order.specs.Sixteenths.{Sixteenths}
use Rattle.grade_order.specs.Statement.{Scores}
use Rattle.grades.specs.Reached.{Reached}
use Rattle.layout.specs.Places.{thresholder_length}
use Rattle.layout.specs.Numbers.{f32_at}
use Rattle.layout.specs.Left.{left}
use Rattle.layout.specs.States.{encode_thresholder, read_thresholder}
use Rattle.c_interface.specs.Calls.{primary_threshold_and_grade_into, threshold_and_grade_into, threshold_and_grade_with_factor_into}
use Rattle.grades_over_c.specs.Bytes.{ReachedBytes}

-- Calls that answered 0 and left ys, by their contracts: `krcf_threshold_and_grade_with_factor`, `krcf_threshold_and_grade` and `krcf_primary_threshold_and_grade`, each over the
-- thresholder's bytes xs and the slice `out`.
abbrev pub GradedByFactor : List ℕ → Float → Float → ℕ → ℕ → List ℕ → List ℕ → Type 0
GradedByFactor xs score factor method shingle_size out ys = left 0 ys ≡ threshold_and_grade_with_factor_into score factor method shingle_size xs out

abbrev pub GradedByZ : List ℕ → Float → ℕ → ℕ → List ℕ → List ℕ → Type 0
GradedByZ xs score method shingle_size out ys = left 0 ys ≡ threshold_and_grade_into score method shingle_size xs out

abbrev pub GradedByDistance : List ℕ → Float → List ℕ → List ℕ → Type 0
GradedByDistance xs score out ys = left 0 ys ≡ primary_threshold_and_grade_into score xs out

-- The grade in the eight bytes that they leave, behind the threshold.
abbrev pub grade_in : List ℕ → Float
grade_in ys = f32_at ys 4

-- xs holds the thresholder s.
abbrev pub Holds : List ℕ → BasicThresholder → Type 0
Holds xs s = read_thresholder xs ≡ Ok s

-- The bytes of a new thresholder.
abbrev pub new_bytes : List ℕ
new_bytes = encode_thresholder (fresh_thresholder zero64 false)

pub record HigherOverC : Type 0 where
  -- Bytes that calls reach hold a thresholder that calls reach. There are such bytes, in any slice of their length, and calls over them answer 0.
  pub held : (xs : List ℕ) → ReachedBytes xs → (s : BasicThresholder) × Holds xs s × Reached s
  pub met : (out : List ℕ) → length out ≡ thresholder_length → ReachedBytes new_bytes
  pub graded : (out : List ℕ) → length out ≡ 8 → (ys : List ℕ) × GradedByFactor new_bytes one32 two32 0 1 out ys
  -- Over them the larger score's grade is at least the smaller's, by any factor and by the thresholder's own.
  pub rises : (xs : List ℕ) (s : BasicThresholder) → Holds xs s → Reached s → T (not (is_nan s.initial_threshold)) → (x y : Float) → Scores x y
      → (factor : Float) (method shingle_size : ℕ) (out out' ys ys' : List ℕ) → GradedByFactor xs x factor method shingle_size out ys → GradedByFactor xs y factor method shingle_size out' ys'
      → T (le (grade_in ys) (grade_in ys'))
  pub rises_by_z : (xs : List ℕ) (s : BasicThresholder) → Holds xs s → Reached s → T (not (is_nan s.initial_threshold)) → (x y : Float) → Scores x y
      → (method shingle_size : ℕ) (out out' ys ys' : List ℕ) → GradedByZ xs x method shingle_size out ys → GradedByZ xs y method shingle_size out' ys' → T (le (grade_in ys) (grade_in ys'))
  -- Over any bytes: k/16, and 0 below the computed threshold or where that is 0.
  pub sixteenths : (xs : List ℕ) (score factor : Float) (method shingle_size : ℕ) (out ys : List ℕ) → GradedByFactor xs score factor method shingle_size out ys → Sixteenths (grade_in ys)
  pub below : (xs : List ℕ) (s : BasicThresholder) → Holds xs s → (score factor : Float) (method shingle_size : ℕ) (out ys : List ℕ) → GradedByFactor xs score factor method shingle_size out ys
      → (m : TransformMethod) → method_of method ≡ Ok m → T (lt score (computed_threshold s factor m shingle_size)) → grade_in ys ≡ zero32
  pub at_zero : (xs : List ℕ) (s : BasicThresholder) → Holds xs s → (score factor : Float) (method shingle_size : ℕ) (out ys : List ℕ) → GradedByFactor xs score factor method shingle_size out ys
      → (m : TransformMethod) → method_of method ≡ Ok m → T (eq (computed_threshold s factor m shingle_size) zero32) → grade_in ys ≡ zero32
  -- DISTANCE's grade, over any bytes.
  pub distance_rises : (xs : List ℕ) (x y : Float) → T (le x y) → (out out' ys ys' : List ℕ) → GradedByDistance xs x out ys → GradedByDistance xs y out' ys' → T (le (grade_in ys) (grade_in ys'))
