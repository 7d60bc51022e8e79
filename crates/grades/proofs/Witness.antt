-- What does not hold, by working it out. Assumes nothing.
use mathlib.Core.Path.{◌≡◌, refl}
use mathlib.Core.Bool.{true, false}
use lib.Ieee.{nan, binary32, round, sub, mul, div, lt, le, eq, of_bits}
use lib.Ieee as Ieee
use Rattle.ieee.specs.Round.{narrow, floor}
use Rattle.util.specs.Util.{maxf32, minf32}
use Rattle.deviation.specs.Const.{zero64}
use Rattle.deviation.specs.Statistics.{mean, is_empty}
use Rattle.basicthresholder.specs.Const.{zero32, one32}
use Rattle.basicthresholder.specs.Grades.{counts_ready, intermediate_fraction, eased_absolute, threshold_from, surprise_index, sixteenths, is_deviation_ready, absolute_of, graded_or, grade_against, threshold_and_grade_with_factor}
use Rattle.basicthresholder.specs.Updates.{fresh_thresholder}
use Rattle.grade_order.specs.Sixteenths.{sixteenths_of}
use Rattle.grades.specs.Reached.{Reached, default, set_absolute_threshold, set_initial_threshold}
use Rattle.grades.specs.Needed.{Needed, grade_at, with_thresholds, uneven}

new_zero : grade_at (fresh_thresholder zero64 false) zero32 ≡ zero32
unfolding
    threshold_and_grade_with_factor is_deviation_ready counts_ready threshold_from absolute_of surprise_index grade_against graded_or sixteenths
    maxf32 minf32 floor round sub mul div lt eq of_bits
new_zero = refl

new_one : grade_at (fresh_thresholder zero64 false) one32 ≡ zero32
unfolding
    threshold_and_grade_with_factor is_deviation_ready counts_ready threshold_from absolute_of surprise_index grade_against graded_or sixteenths
    maxf32 minf32 floor round sub mul div lt eq of_bits
new_one = refl

odd : sixteenths_of (grade_at (with_thresholds one32 one32) (round binary32 false 17 16)) ≡ 1
unfolding
    threshold_and_grade_with_factor is_deviation_ready counts_ready threshold_from absolute_of surprise_index grade_against graded_or sixteenths
    maxf32 minf32 floor round sub mul div lt eq of_bits
odd = refl

reached_nan : Reached (with_thresholds nan (round binary32 true 1 1))
reached_nan = set_initial_threshold nan (set_absolute_threshold (round binary32 true 1 1) default)

nan_lower : sixteenths_of (grade_at (with_thresholds nan (round binary32 true 1 1)) (round binary32 true 2 1)) ≡ 16
unfolding
    threshold_and_grade_with_factor is_deviation_ready counts_ready threshold_from absolute_of surprise_index grade_against graded_or sixteenths
    maxf32 minf32 floor round sub mul div lt eq of_bits
nan_lower = refl

nan_higher : sixteenths_of (grade_at (with_thresholds nan (round binary32 true 1 1)) (round binary32 true 3 2)) ≡ 10
unfolding
    threshold_and_grade_with_factor is_deviation_ready counts_ready threshold_from absolute_of surprise_index grade_against graded_or sixteenths
    maxf32 minf32 floor round sub mul div lt eq of_bits
nan_higher = refl

uneven_lower : sixteenths_of (grade_at uneven (round binary32 true 2 1)) ≡ 16
unfolding
    threshold_and_grade_with_factor is_deviation_ready counts_ready intermediate_fraction eased_absolute threshold_from absolute_of surprise_index grade_against graded_or sixteenths
    mean is_empty narrow maxf32 minf32 floor round sub mul div lt le eq of_bits Ieee.ne
uneven_lower = refl

uneven_higher : sixteenths_of (grade_at uneven one32) ≡ 0
unfolding
    threshold_and_grade_with_factor is_deviation_ready counts_ready intermediate_fraction eased_absolute threshold_from absolute_of surprise_index grade_against graded_or sixteenths
    mean is_empty narrow maxf32 minf32 floor round sub mul div lt le eq of_bits Ieee.ne
uneven_higher = refl

pub needed : Needed
needed = record {
  not_strictly = (new_zero, new_one);
  odd = odd;
  initial = (reached_nan, nan_lower, nan_higher);
  counts = (uneven_lower, uneven_higher);
}
