-- Every row of the drill sheet is right: both sides of all rows are computed and compared at once. Assumes nothing.
use mathlib.Core.Path.{◌≡◌, refl, ap}
use mathlib.Core.Bool.{Bool, true, false}
use mathlib.Core.List.{List, [], ◌∷◌}
use Prim.Native.Nat.{ℕ}
use lib.Ieee.{Float, of_bits, of_int, sub, mul, div, le}
use Rattle.util.specs.Util.{maxf32, minf32, absf32}
use Rattle.ieee.specs.Round.{floor, sqrt}
use Rattle.types.specs.declared.TransformMethod.{TransformMethod}
use Rattle.deviation.specs.Statistics.{update, countable, next, factor, is_empty, mean, deviation, positive_root}
use Rattle.basicthresholder.specs.Grades.{threshold_and_grade, threshold_and_grade_with_factor, is_deviation_ready, counts_ready, threshold_from, absolute_of, eased_absolute, intermediate_fraction, surprise_index, grade_against, graded_or, sixteenths}
use Rattle.basicthresholder.specs.Updates.{set_score_differencing, is_horizon}
use Rattle.divector.specs.DiVector.{max_gap_contribution, bad_blocks, first_block, winner, best_from, block_sum, pair_sum, normalized, total_of, sum_from, share}
use Rattle.corrector.specs.Corrector.{apply_basic_corrector, amended, amended_row, shifted, for_up_to, newest_row_answer}
use Rattle.descriptor.specs.Checks.{sizes_ok, dimension}
use Rattle.uncertainty_box.specs.Box.{path_deviation, path_loop, path_mean, path_step}
use Rattle.drill_sheet.specs.DrillSheet.{Row, Holds, sheet, Statement}

-- One side of every row.
abbrev Side : List Row → Type 0
Side [] = Unit
Side (row ∷ rows) = row.Kind × Side rows

abbrev givens : (rows : List Row) → Side rows
givens [] = tt
givens (row ∷ rows) = (row.given, givens rows)

abbrev saids : (rows : List Row) → Side rows
saids [] = tt
saids (row ∷ rows) = (row.said, saids rows)

row_by_row : (rows : List Row) → givens rows ≡ saids rows → Holds rows
row_by_row [] h = tt
row_by_row (row ∷ rows) h = (ap (λ side. side.0) h, row_by_row rows (ap (λ side. side.1) h))

computed :
    (discount : Float) (adjust : Bool) (method : TransformMethod) (shingle : ℕ) (timed : Bool)
    → givens (sheet discount adjust method shingle timed) ≡ saids (sheet discount adjust method shingle timed)
unfolding of_bits of_int sub mul div le floor sqrt maxf32 minf32 absf32
    update countable next factor is_empty mean deviation positive_root
    threshold_and_grade threshold_and_grade_with_factor is_deviation_ready counts_ready threshold_from absolute_of eased_absolute intermediate_fraction surprise_index grade_against graded_or sixteenths
    set_score_differencing is_horizon
    max_gap_contribution bad_blocks first_block winner best_from block_sum pair_sum normalized total_of sum_from share
    apply_basic_corrector amended amended_row shifted for_up_to newest_row_answer sizes_ok dimension
    path_deviation path_loop path_mean path_step
computed discount true method shingle timed = refl
computed discount false method shingle timed = refl

pub every_row_holds : Statement
every_row_holds discount adjust method shingle timed =
    row_by_row (sheet discount adjust method shingle timed) (computed discount adjust method shingle timed)
