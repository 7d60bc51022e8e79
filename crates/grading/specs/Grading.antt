-- The steps of basicthresholder.rs on numbers alone. One definition for each function, in the Rust's shape. Minimum scores is 10 always.
use Rattle.std.specs.Prelude.{Bool, true, false, cond, not, ◌&&◌, ℤ, pos, ◌-ℤ◌, int_le, Float}
use Rattle.std.specs.Int.Signed.{lt_z}
use Rattle.std.specs.Float.Ieee.{of_int}
use Rattle.std.specs.Float.{binary32}
use Rattle.ieee.specs.Round.{narrow, floor}
use Rattle.ieee.specs.F32.{◌+₃₂◌, ◌-₃₂◌, ◌*₃₂◌, ◌/₃₂◌, ◌<₃₂◌, ◌>₃₂◌, ◌>=₃₂◌, ◌!=₃₂◌}
use Rattle.util.specs.Util.{maxf32, minf32}
use Rattle.grading.specs.Const.{zero32, one32, two32, ten32, sixteen32, twenty32, tenth32}

-- Ten scores; of the primary statistic too unless score differencing is 0.
unfoldable pub counts_ready : ℤ → Float → ℤ → Bool
counts_ready count score_differencing primary_count =
    cond (lt_z count (pos 10)) false (cond (score_differencing !=₃₂ zero32) (int_le (pos 10) primary_count) true)

-- From 0 at ten scores to 1 at twenty.
unfoldable pub intermediate_fraction : ℤ → Float
intermediate_fraction count =
    cond (lt_z count (pos 10)) zero32
    (cond (lt_z (pos 20) count) one32
    (of_int binary32 (count -ℤ pos 10) *₃₂ one32 /₃₂ ten32))

-- 2 in place of a factor below it.
unfoldable pub at_least_minimum : Float → Float
at_least_minimum corrected_factor = cond (corrected_factor <₃₂ two32) two32 corrected_factor

-- base is the primary mean as f32.
unfoldable pub adjusted_factor : Float → Float → Float → Bool → Float
adjusted_factor base factor factor_adjustment_threshold none =
    at_least_minimum (cond (base <₃₂ factor_adjustment_threshold && not none) (base *₃₂ factor /₃₂ factor_adjustment_threshold) factor)

-- The smaller of two f64, the second where they do not compare: the Rust's `if a < b { first = a }`.
unfoldable pub smaller : Float → Float → Float
smaller a b = cond (a <₃₂ b) a b

-- The last line of `long_term_deviation`, of two f64.
unfoldable pub mixed : Float → Float → Float → Float
mixed score_differencing first second = score_differencing *₃₂ narrow first +₃₂ (one32 -₃₂ score_differencing) *₃₂ narrow second

-- The absolute threshold, lowered with auto threshold once twenty scores are counted and the mean t is under the limit.
unfoldable pub eased_absolute : Float → Float → Float → Float → Float
eased_absolute t intermediate_fraction factor_adjustment_threshold absolute =
    cond (intermediate_fraction >=₃₂ one32 && t <₃₂ factor_adjustment_threshold) (t *₃₂ absolute /₃₂ factor_adjustment_threshold) absolute

-- The threshold from its parts.
unfoldable pub threshold_from : Bool → Float → Float → Float → Float → Float → Float
threshold_from ready intermediate_fraction mean scaled_deviation initial_threshold absolute =
    let t = intermediate_fraction *₃₂ (mean +₃₂ scaled_deviation) +₃₂ (one32 -₃₂ intermediate_fraction) *₃₂ initial_threshold in
    cond (not ready) (maxf32 initial_threshold absolute) (maxf32 t absolute)

-- How far the score is over `base`, as a part of the factor, 0 to 2; before ten scores, as a part of the absolute threshold, 0 to 1.
unfoldable pub surprise_index : Bool → Float → Float → Float → Float → Float → Float
surprise_index ready score base factor deviation absolute_threshold =
    let z = (score -₃₂ base) /₃₂ deviation in
    let t_factor = cond (deviation >₃₂ zero32) (minf32 z factor) (two32 *₃₂ factor) in
    let t = (score -₃₂ absolute_threshold) /₃₂ absolute_threshold in
    cond ready (maxf32 (t_factor /₃₂ factor) zero32) (minf32 one32 (maxf32 t zero32))

-- The floor of 20 × surprise over 16, at most 1.
unfoldable pub sixteenths : Float → Float
sixteenths t = minf32 (floor (t *₃₂ twenty32) /₃₂ sixteen32) one32

-- The primary statistic's mean and deviation as f32.
unfoldable pub threshold_by : Float → Float → Float → Float
threshold_by mean z_factor deviation = mean +₃₂ z_factor *₃₂ deviation

-- The grade of a score that is t over the threshold.
unfoldable pub grade_over : Float → Float → Float
grade_over t deviation = cond (t >₃₂ zero32) (cond (deviation >₃₂ zero32) (minf32 (t /₃₂ deviation) one32) tenth32) zero32
