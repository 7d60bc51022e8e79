-- basicthresholder.rs: threshold and grade of a score against the state. One definition for each function, in the Rust's shape; the steps of the crate grading
-- take the numbers they read, and `self`'s fields are handed to them. Operators with ₃₂ are those of f32, `*₆₄` is f64's.
use Rattle.std.specs.Prelude.{ℕ, Bool, cond, not, ◌&&◌, ◌||◌, nat_eq, Float}
use Rattle.ieee.specs.Round.{narrow}
use Rattle.ieee.specs.F32.{◌+₃₂◌, ◌-₃₂◌, ◌*₃₂◌, ◌/₃₂◌, ◌<₃₂◌, ◌>₃₂◌, ◌==₃₂◌}
use Rattle.ieee.specs.F64.{◌*₆₄◌}
use Rattle.util.specs.Util.{minf32}
use Rattle.types.specs.Codes.{is_none, is_differenced}
use Rattle.types.specs.declared.TransformMethod.{TransformMethod}
use Rattle.deviation.specs.Statistics.{mean, deviation}
unfoldable pub use Rattle.grading.specs.Grading.{counts_ready, intermediate_fraction, at_least_minimum, adjusted_factor, smaller, mixed, eased_absolute, threshold_from, surprise_index, sixteenths, threshold_by, grade_over}
use Rattle.basicthresholder.specs.Const.{zero32, one32, root_of_two}
use Rattle.basicthresholder.specs.declared.BasicThresholder.{BasicThresholder}
use Rattle.basicthresholder.specs.declared.Graded.{Graded}

-- The answer of a threshold call: (threshold, grade).
abbrev pub graded : Float → Float → Graded
graded t g = record { threshold = t; grade = g }

unfoldable pub is_deviation_ready : BasicThresholder → Bool
is_deviation_ready s = counts_ready s.count s.score_differencing s.primary_deviation.count

-- The deviations' part of `long_term_deviation`: the smallest of the three, the third times the root of 2, mixed with the second.
unfoldable pub smallest_deviation : BasicThresholder → Float
smallest_deviation s =
    let t = root_of_two *₆₄ deviation s.threshold_deviation in
    let first = smaller t (deviation s.primary_deviation) in
    let second = deviation s.secondary_deviation in
    mixed s.score_differencing (smaller second first) second

unfoldable pub long_term_deviation : BasicThresholder → Bool → ℕ → Float
long_term_deviation s differenced shingle_size =
    cond (nat_eq shingle_size 1 && not differenced)
    (minf32 (narrow (root_of_two *₆₄ mean s.threshold_deviation)) (narrow (mean s.primary_deviation)))
    (smallest_deviation s)

unfoldable pub absolute_of : BasicThresholder → Float → Float
absolute_of s t =
    cond s.auto_threshold
    (eased_absolute t (intermediate_fraction s.count) s.factor_adjustment_threshold s.absolute_threshold)
    s.absolute_threshold

-- A grade above 0 goes with the threshold; otherwise the score itself is answered as the threshold.
unfoldable pub graded_or : Float → Float → Float → Graded
graded_or score threshold t = cond (t >₃₂ zero32) (graded threshold t) (graded score zero32)

-- Grade 0 below the threshold or when that is 0.
unfoldable pub grade_against : Float → Float → Float → Graded
grade_against score threshold surprise =
    cond (score <₃₂ threshold || threshold ==₃₂ zero32) (graded threshold zero32) (graded_or score threshold (sixteenths surprise))

-- The factor that a threshold call goes by, and the deviation scaled by it.
abbrev pub new_factor_of : BasicThresholder → Float → TransformMethod → Float
new_factor_of s factor method = adjusted_factor (narrow (mean s.primary_deviation)) factor s.factor_adjustment_threshold (is_none method)

abbrev pub scaled_deviation_of : BasicThresholder → Float → TransformMethod → ℕ → Float
scaled_deviation_of s factor method shingle_size =
    let long_term = long_term_deviation s (is_differenced method) shingle_size in
    (new_factor_of s factor method -₃₂ one32) *₃₂ long_term +₃₂ narrow (deviation s.primary_deviation)

-- The threshold that every score is held against. It is what is answered, unless a score is not below it and has grade 0 all the same: then the score is answered.
abbrev pub computed_threshold : BasicThresholder → Float → TransformMethod → ℕ → Float
computed_threshold s factor method shingle_size =
    let t = narrow (mean s.primary_deviation) in
    threshold_from (is_deviation_ready s) (intermediate_fraction s.count) t (scaled_deviation_of s factor method shingle_size) s.initial_threshold (absolute_of s t)

unfoldable pub threshold_and_grade_with_factor : BasicThresholder → Float → Float → TransformMethod → ℕ → Graded
threshold_and_grade_with_factor s score factor method shingle_size =
    let ready = is_deviation_ready s in
    let fraction = intermediate_fraction s.count in
    let t = narrow (mean s.primary_deviation) in
    let new_factor = adjusted_factor t factor s.factor_adjustment_threshold (is_none method) in
    let long_term = long_term_deviation s (is_differenced method) shingle_size in
    let scaled_deviation = (new_factor -₃₂ one32) *₃₂ long_term +₃₂ narrow (deviation s.primary_deviation) in
    let absolute = absolute_of s t in
    let threshold = threshold_from ready fraction t scaled_deviation s.initial_threshold absolute in
    let surprise = surprise_index ready score threshold new_factor (scaled_deviation /₃₂ new_factor) s.absolute_threshold in
    grade_against score threshold surprise

unfoldable pub threshold_and_grade : BasicThresholder → Float → TransformMethod → ℕ → Graded
threshold_and_grade s score method shingle_size = threshold_and_grade_with_factor s score s.z_factor method shingle_size

unfoldable pub threshold : BasicThresholder → Float
threshold s = threshold_by (narrow (mean s.primary_deviation)) s.z_factor (narrow (deviation s.primary_deviation))

unfoldable pub primary_grade : BasicThresholder → Float → Float
primary_grade s score = cond (is_deviation_ready s) (grade_over (score -₃₂ threshold s) (narrow (deviation s.primary_deviation))) zero32

unfoldable pub primary_threshold_and_grade : BasicThresholder → Float → Graded
primary_threshold_and_grade s score = graded (threshold s) (primary_grade s score)
