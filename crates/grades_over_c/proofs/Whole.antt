-- The statement. Assumes nothing.
use Rattle.std.specs.Prelude.{Ok}
use mathlib.Core.Path.{◌≡◌, sym, subst, ◌∙◌}
use mathlib.Core.Bool.{not}
use mathlib.Core.List.{List}
use Prim.Native.Nat.{ℕ}
use lib.Dec.{T}
use lib.Ieee.{Float, le, lt, eq, is_nan}
use Rattle.types.specs.Codes.{method_of}
use Rattle.types.specs.declared.TransformMethod.{TransformMethod}
use Rattle.basicthresholder.specs.Const.{zero32}
use Rattle.basicthresholder.specs.Grades.{computed_threshold, threshold_and_grade, threshold_and_grade_with_factor, primary_threshold_and_grade}
use Rattle.basicthresholder.specs.declared.BasicThresholder.{BasicThresholder}
use Rattle.basicthresholder.specs.declared.Graded as Answer
use Rattle.grade_order.specs.Sixteenths.{Sixteenths}
use Rattle.grade_order.specs.Statement.{Scores}
use Rattle.grades.specs.Reached.{Reached}
use Rattle.grades.proofs.Whole.{higher_scores}
use Rattle.layout.specs.Left.{left}
use Rattle.layout.specs.States.{encode_graded, read_thresholder}
use Rattle.c_interface.specs.Calls.{graded_by}
use Rattle.grades_over_c.specs.Bytes.{ReachedBytes}
use Rattle.grades_over_c.specs.Statement.{GradedByFactor, GradedByZ, GradedByDistance, grade_in, Holds, HigherOverC}
use Rattle.grades_over_c.proofs.Answered.{read, known, graded}
use Rattle.grades_over_c.proofs.Kept.{kept}
use Rattle.grades_over_c.proofs.Witness.{met, graded_new}
use Rattle.grades_over_c.proofs.Grades.{by_factor, by_z, by_distance}

le_by : (a b c d : Float) → a ≡ c → b ≡ d → T (le c d) → T (le a b)
le_by a b c d p q h = subst (λ (x : Float). T (le x b)) (sym p) (subst (λ (y : Float). T (le c y)) (sym q) h)

held : (xs : List ℕ) → ReachedBytes xs → (s : BasicThresholder) × Holds xs s × Reached s
held xs r = (let k = kept xs r in (k.state, k.reads, k.reached))

-- The thresholder and the method that a graded call went by.
module _ (f : BasicThresholder → TransformMethod → Answer.Graded) (xs : List ℕ) (method : ℕ) (out ys : List ℕ) (e : left 0 ys ≡ graded_by f (method_of method) (read_thresholder xs) out) where
  method_of_lem : (m : TransformMethod) × (method_of method ≡ Ok m)
  method_of_lem = known out ys f (read_thresholder xs) (method_of method) e

  state_of : (s : BasicThresholder) × Holds xs s
  state_of = graded out ys f (read_thresholder xs) (method_of method) e

sixteenths : (xs : List ℕ) (score factor : Float) (method shingle_size : ℕ) (out ys : List ℕ) → GradedByFactor xs score factor method shingle_size out ys → Sixteenths (grade_in ys)
sixteenths xs score factor method shingle_size out ys e =
    let m = method_of_lem (λ s m. threshold_and_grade_with_factor s score factor m shingle_size) xs method out ys e in
    let s = state_of (λ s m. threshold_and_grade_with_factor s score factor m shingle_size) xs method out ys e in
    subst Sixteenths (sym (by_factor xs s.0 s.1 score factor method m.0 shingle_size out ys m.1 e)) (higher_scores.sixteenths s.0 score factor m.0 shingle_size)

module _ (xs : List ℕ) (s : BasicThresholder) (k : Holds xs s) (r : Reached s) (n : T (not (is_nan s.initial_threshold))) (x y : Float) (o : Scores x y) where
  rises : (factor : Float) (method shingle_size : ℕ) (out out' ys ys' : List ℕ) → GradedByFactor xs x factor method shingle_size out ys → GradedByFactor xs y factor method shingle_size out' ys'
      → T (le (grade_in ys) (grade_in ys'))
  rises factor method shingle_size out out' ys ys' p q =
      let m = method_of_lem (λ s m. threshold_and_grade_with_factor s x factor m shingle_size) xs method out ys p in
      le_by (grade_in ys) (grade_in ys') _ _ (by_factor xs s k x factor method m.0 shingle_size out ys m.1 p) (by_factor xs s k y factor method m.0 shingle_size out' ys' m.1 q)
      (higher_scores.rises s r n x y o factor m.0 shingle_size)

  rises_by_z : (method shingle_size : ℕ) (out out' ys ys' : List ℕ) → GradedByZ xs x method shingle_size out ys → GradedByZ xs y method shingle_size out' ys' → T (le (grade_in ys) (grade_in ys'))
  rises_by_z method shingle_size out out' ys ys' p q =
      let m = method_of_lem (λ s m. threshold_and_grade s x m shingle_size) xs method out ys p in
      le_by (grade_in ys) (grade_in ys') _ _ (by_z xs s k x method m.0 shingle_size out ys m.1 p) (by_z xs s k y method m.0 shingle_size out' ys' m.1 q)
      (higher_scores.rises s r n x y o s.z_factor m.0 shingle_size)

below : (xs : List ℕ) (s : BasicThresholder) → Holds xs s → (score factor : Float) (method shingle_size : ℕ) (out ys : List ℕ) → GradedByFactor xs score factor method shingle_size out ys
    → (m : TransformMethod) → method_of method ≡ Ok m → T (lt score (computed_threshold s factor m shingle_size)) → grade_in ys ≡ zero32
below xs s k score factor method shingle_size out ys e m c h = by_factor xs s k score factor method m shingle_size out ys c e ∙ higher_scores.below s score factor m shingle_size h

at_zero : (xs : List ℕ) (s : BasicThresholder) → Holds xs s → (score factor : Float) (method shingle_size : ℕ) (out ys : List ℕ) → GradedByFactor xs score factor method shingle_size out ys
    → (m : TransformMethod) → method_of method ≡ Ok m → T (eq (computed_threshold s factor m shingle_size) zero32) → grade_in ys ≡ zero32
at_zero xs s k score factor method shingle_size out ys e m c h = by_factor xs s k score factor method m shingle_size out ys c e ∙ higher_scores.at_zero s score factor m shingle_size h

distance_rises : (xs : List ℕ) (x y : Float) → T (le x y) → (out out' ys ys' : List ℕ) → GradedByDistance xs x out ys → GradedByDistance xs y out' ys' → T (le (grade_in ys) (grade_in ys'))
distance_rises xs x y l out out' ys ys' p q =
    let s = read out ys (λ t. encode_graded (primary_threshold_and_grade t x)) 8 (read_thresholder xs) p in
    le_by (grade_in ys) (grade_in ys') _ _ (by_distance xs s.0 s.1 x out ys p) (by_distance xs s.0 s.1 y out' ys' q) (higher_scores.distance_rises s.0 x y l)

pub higher_over_c : HigherOverC
higher_over_c = record { held = held; met = met; graded = graded_new; rises = rises; rises_by_z = rises_by_z; sixteenths = sixteenths; below = below; at_zero = at_zero; distance_rises = distance_rises }
