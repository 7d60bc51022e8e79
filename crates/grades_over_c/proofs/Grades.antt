-- The grade in the bytes that a graded call leaves is the grade of the thresholder that it read. Assumes nothing.
use Rattle.std.specs.Prelude.{Result, Ok}
use mathlib.Core.Path.{◌≡◌, sym, ap, ◌∙◌, subst}
use mathlib.Core.Bool.{cond}
use mathlib.Core.List.{List}
use Prim.Native.Nat.{ℕ}
use lib.Dec.{T}
use lib.Ieee.{Float, binary32, fits, lt, div}
use lib.Ieee.Bits.{of_bits-fits}
use lib.Ieee.Fits.{round-fits, cond-fits, div-fits}
use Rattle.util.specs.Util.{minf32}
use Rattle.types.specs.Codes.{method_of}
use Rattle.types.specs.declared.TransformMethod.{TransformMethod}
use Rattle.basicthresholder.specs.Const.{zero32, one32, tenth32}
use Rattle.basicthresholder.specs.Grades.{grade_over, is_deviation_ready, threshold_and_grade, threshold_and_grade_with_factor, primary_grade, primary_threshold_and_grade}
use Rattle.basicthresholder.specs.declared.BasicThresholder.{BasicThresholder}
use Rattle.basicthresholder.specs.declared.Graded as Answer
use Rattle.grade_order.specs.Sixteenths.{Sixteenths}
use Rattle.grades.specs.Statement.{grade}
use Rattle.grades.proofs.Whole.{higher_scores}
use Rattle.layout.specs.Numbers.{f32_at, f32_bytes, le4, bytes4}
use Rattle.layout.specs.States.{joined, encode_graded, read_thresholder}
use Rattle.layout.specs.Left.{left}
use Rattle.layout.proofs.Laws.{f32_back}
use Rattle.c_interface.specs.Calls.{thresholder_read, graded_by}
use Rattle.demand3_over_c.proofs.Held.{min_fits}
use Rattle.grades_over_c.specs.Statement.{GradedByFactor, GradedByZ, GradedByDistance, grade_in, Holds}
use Rattle.grades_over_c.proofs.Answered.{asked}
use Rattle.types.specs.declared.Refusal.{Refusal}

-- ---- grades are f32
sixteenths_fit : (g : Float) → Sixteenths g → T (fits binary32 g)
sixteenths_fit g w = subst (λ (x : Float). T (fits binary32 x)) (sym w.is) (round-fits binary32 _ _ _)

over_fits : (t spread : Float) → T (fits binary32 (grade_over t spread))
unfolding grade_over
over_fits t spread =
    let ratio = div binary32 t spread in
    cond-fits binary32 (lt zero32 t) (cond (lt zero32 spread) (minf32 ratio one32) tenth32) zero32
    (cond-fits binary32 (lt zero32 spread) (minf32 ratio one32) tenth32 (min_fits ratio one32 (div-fits binary32 t spread) (of_bits-fits binary32 _)) (of_bits-fits binary32 _))
    (of_bits-fits binary32 _)

distance_fits : (s : BasicThresholder) (score : Float) → T (fits binary32 (primary_grade s score))
unfolding primary_grade
distance_fits s score = cond-fits binary32 (is_deviation_ready s) (grade_over _ _) zero32 (over_fits _ _) (of_bits-fits binary32 _)

-- ---- a grade comes back from its bytes
grade_back : (g : Answer.Graded) → T (fits binary32 g.grade) → grade_in (encode_graded g) ≡ g.grade
unfolding encode_graded joined f32_at f32_bytes le4 bytes4
grade_back g h = f32_back g.grade h

module _ (xs : List ℕ) (s : BasicThresholder) (k : Holds xs s) (score : Float) where
  left_grade : (g : BasicThresholder → Answer.Graded) (out ys : List ℕ) → T (fits binary32 (g s).grade)
      → left 0 ys ≡ thresholder_read (λ t. encode_graded (g t)) 8 (read_thresholder xs) out → grade_in ys ≡ (g s).grade
  left_grade g out ys h e = ap grade_in (asked out ys (λ t. encode_graded (g t)) 8 (read_thresholder xs) s k e) ∙ grade_back (g s) h

  pub by_factor : (factor : Float) (method : ℕ) (m : TransformMethod) (shingle_size : ℕ) (out ys : List ℕ) → method_of method ≡ Ok m
      → GradedByFactor xs score factor method shingle_size out ys → grade_in ys ≡ grade s score factor m shingle_size
  unfolding graded_by
  by_factor factor method m shingle_size out ys c e =
      left_grade (λ t. threshold_and_grade_with_factor t score factor m shingle_size) out ys (sixteenths_fit _ (higher_scores.sixteenths s score factor m shingle_size))
      (e ∙ ap (λ (a : Result TransformMethod Refusal). graded_by (λ t b. threshold_and_grade_with_factor t score factor b shingle_size) a (read_thresholder xs) out) c)

  pub by_z : (method : ℕ) (m : TransformMethod) (shingle_size : ℕ) (out ys : List ℕ) → method_of method ≡ Ok m
      → GradedByZ xs score method shingle_size out ys → grade_in ys ≡ grade s score s.z_factor m shingle_size
  unfolding graded_by threshold_and_grade
  by_z method m shingle_size out ys c e =
      left_grade (λ t. threshold_and_grade t score m shingle_size) out ys (sixteenths_fit _ (higher_scores.sixteenths s score s.z_factor m shingle_size))
      (e ∙ ap (λ (a : Result TransformMethod Refusal). graded_by (λ t b. threshold_and_grade t score b shingle_size) a (read_thresholder xs) out) c)

  pub by_distance : (out ys : List ℕ) → GradedByDistance xs score out ys → grade_in ys ≡ primary_grade s score
  unfolding primary_threshold_and_grade
  by_distance out ys e = left_grade (λ t. primary_threshold_and_grade t score) out ys (distance_fits s score) e
