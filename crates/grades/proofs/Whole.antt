-- The statement. Assumes nothing.
use mathlib.Core.Path.{◌≡◌, sym, subst}
use mathlib.Core.Bool.{not}
use Prim.Native.Nat.{ℕ}
use lib.Dec.{T}
use lib.Ieee.{Float, binary32, fits, le, is_nan}
use Rattle.types.specs.declared.TransformMethod.{TransformMethod}
use Rattle.basicthresholder.specs.Grades.{threshold_and_grade_with_factor}
use Rattle.basicthresholder.specs.declared.BasicThresholder.{BasicThresholder}
use Rattle.basicthresholder.specs.declared.Graded.{Graded}
use Rattle.grade_order.specs.Statement.{Scores}
use Rattle.grades.specs.Reached.{Reached}
use Rattle.grades.specs.Statement.{grade, InOrder, HigherScores}
use Rattle.grades.proofs.Counts.{agree}
use Rattle.grades.proofs.Higher.{higher, in_sixteenths, nothing_below, nothing_at_zero, distance}
use Rattle.grades.proofs.Witness.{needed}

rises : (s : BasicThresholder) → Reached s → T (not (is_nan s.initial_threshold)) → (x y : Float) → Scores x y
    → (factor : Float) (method : TransformMethod) (shingle_size : ℕ) → T (le (grade s x factor method shingle_size) (grade s y factor method shingle_size))
rises s r n x y o factor method shingle_size = higher s x y o (agree s r) n factor method shingle_size

-- Of two calls, by their contracts.
pub in_order : (s : BasicThresholder) (x y factor : Float) (method : TransformMethod) (shingle_size : ℕ) (a b : Graded)
    → a ≡ threshold_and_grade_with_factor s x factor method shingle_size → b ≡ threshold_and_grade_with_factor s y factor method shingle_size
    → T (fits binary32 x) → T (fits binary32 y) → InOrder s x y a b
in_order s x y factor method shingle_size a b p q h k r n l =
    subst (λ (g : Graded). T (le g.grade b.grade)) (sym p)
    (subst (λ (g : Graded). T (le (grade s x factor method shingle_size) g.grade)) (sym q) (rises s r n x y (record { order = l; first = h; second = k }) factor method shingle_size))

pub higher_scores : HigherScores
higher_scores = record {
  rises = rises;
  sixteenths = in_sixteenths;
  below = nothing_below;
  at_zero = nothing_at_zero;
  counts = agree;
  rises_by_counts = λ s e n x y o. higher s x y o e n;
  distance_rises = distance;
  needed = needed;
}
