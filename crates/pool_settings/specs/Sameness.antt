-- Document 01's sameness: two states are the same if all their numbers compare equal, NaN with NaN. The one definition of it.
use Rattle.std.specs.Prelude.{ℕ, zero, suc, Bool, true, false, ◌&&◌, ◌||◌, List, eqb, ℤ, pos, negsuc, get_or, Float}
use Rattle.std.specs.Bool.{beq}
use Rattle.std.specs.Float.Ieee.{eq, is_nan}
use Rattle.deviation.specs.Const.{zero64}
use Rattle.deviation.specs.Statistics.{fresh}
use Rattle.deviation.specs.declared.Deviation.{Deviation}
use Rattle.basicthresholder.specs.declared.BasicThresholder.{BasicThresholder}
use Rattle.predictorcorrector.specs.declared.PredictorCorrector.{PredictorCorrector}

unfoldable pub same_float : Float → Float → Bool
same_float a b = eq a b || (is_nan a && is_nan b)

-- A whole number that may be negative.
unfoldable pub same_whole : ℤ → ℤ → Bool
same_whole (pos m) (pos n) = eqb m n
same_whole (negsuc m) (negsuc n) = eqb m n
same_whole (pos m) (negsuc n) = false
same_whole (negsuc m) (pos n) = false

unfoldable pub same_deviation : Deviation → Deviation → Bool
same_deviation a b =
    same_float a.discount b.discount
    && same_float a.weight b.weight
    && same_float a.sum_squared b.sum_squared
    && same_float a.sum b.sum
    && same_whole a.count b.count

unfoldable pub same_thresholder : BasicThresholder → BasicThresholder → Bool
same_thresholder a b =
    same_float a.elasticity b.elasticity
    && same_whole a.count b.count
    && same_float a.score_differencing b.score_differencing
    && same_float a.last_score b.last_score
    && same_deviation a.primary_deviation b.primary_deviation
    && same_deviation a.secondary_deviation b.secondary_deviation
    && same_deviation a.threshold_deviation b.threshold_deviation
    && beq a.auto_threshold b.auto_threshold
    && same_float a.absolute_threshold b.absolute_threshold
    && same_float a.absolute_score_fraction b.absolute_score_fraction
    && same_float a.lower_threshold b.lower_threshold
    && same_float a.factor_adjustment_threshold b.factor_adjustment_threshold
    && same_float a.initial_threshold b.initial_threshold
    && same_float a.z_factor b.z_factor

-- The first n entries of two lists.
unfoldable pub same_entries : ℕ → List Deviation → List Deviation → Bool
same_entries zero ds es = true
same_entries (suc n) ds es = same_entries n ds es && same_deviation (get_or ds n (fresh zero64)) (get_or es n (fresh zero64))

unfoldable pub same_state : PredictorCorrector → PredictorCorrector → Bool
same_state a b =
    same_thresholder a.basic_thresholder b.basic_thresholder
    && beq a.auto_adjust b.auto_adjust
    && eqb a.run_length b.run_length
    && eqb a.base_dimension b.base_dimension
    && same_entries 16 a.deviations_actual b.deviations_actual
    && same_entries 16 a.deviations_expected b.deviations_expected
