-- What does not hold, by numbers: why grades are not said to rise strictly or to be eighths, and what the two premises on a state are for. Definitions only.
use Rattle.std.specs.Prelude.{◌≡◌, true, false, pos, Float}
use Rattle.std.specs.Float.{nan, inf, binary32}
use Rattle.std.specs.Float.Ieee.{round}
use Rattle.types.specs.declared.TransformMethod.TheVariants.{NONE}
use Rattle.deviation.specs.Const.{zero64, one64}
use Rattle.deviation.specs.Statistics.{create}
use Rattle.basicthresholder.specs.Const.{zero32, one32, two32}
use Rattle.basicthresholder.specs.Grades.{threshold_and_grade_with_factor}
use Rattle.basicthresholder.specs.Updates.{fresh_thresholder, with_counted, with_absolute_threshold, with_initial_threshold}
use Rattle.basicthresholder.specs.declared.BasicThresholder.{BasicThresholder}
use Rattle.grade_order.specs.Sixteenths.{sixteenths_of}
use Rattle.grades.specs.Reached.{Reached}

-- The grade by factor 2, without a method, of shingle size 1.
abbrev pub grade_at : BasicThresholder → Float → Float
grade_at s score = (threshold_and_grade_with_factor s score two32 NONE 1).grade

-- A new state with these thresholds.
abbrev pub with_thresholds : Float → Float → BasicThresholder
with_thresholds initial absolute = with_initial_threshold (with_absolute_threshold (fresh_thresholder zero64 false) absolute) initial

-- One in which the counts differ, 21 and 1: with auto threshold, an absolute threshold of -0, an initial one of -3, and a primary score of minus infinity.
abbrev pub uneven : BasicThresholder
uneven =
    let s = with_initial_threshold (with_absolute_threshold (fresh_thresholder zero64 true) (round binary32 true 0 1)) (round binary32 true 3 1) in
    with_counted s zero32 (create zero64 one64 (inf true) (inf false) (pos 1)) s.secondary_deviation s.threshold_deviation (pos 21)

pub record Needed : Type 0 where
  -- A higher score need not earn a higher grade: under the new state's thresholds 0 and 1 earn nothing.
  pub not_strictly : (grade_at (fresh_thresholder zero64 false) zero32 ≡ zero32) × (grade_at (fresh_thresholder zero64 false) one32 ≡ zero32)
  -- Eighths are too coarse: over thresholds of 1 a score of 17/16 earns 1/16.
  pub odd : sixteenths_of (grade_at (with_thresholds one32 one32) (round binary32 false 17 16)) ≡ 1
  -- An initial threshold that is NaN, over an absolute one of -1: -2 earns 1, and -3/2 only 10/16.
  pub initial :
      Reached (with_thresholds nan (round binary32 true 1 1))
      × (sixteenths_of (grade_at (with_thresholds nan (round binary32 true 1 1)) (round binary32 true 2 1)) ≡ 16)
      × (sixteenths_of (grade_at (with_thresholds nan (round binary32 true 1 1)) (round binary32 true 3 2)) ≡ 10)
  -- Counts that differ: -2 earns 1, and 1 nothing.
  pub counts : (sixteenths_of (grade_at uneven (round binary32 true 2 1)) ≡ 16) × (sixteenths_of (grade_at uneven one32) ≡ 0)
