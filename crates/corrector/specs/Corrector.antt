-- The calls of predictorcorrector.rs on lent points and attributions, as the Rust has them: the expected point, the trigger, the basic corrector; and the newest row.
-- Each `..Fits` says where a call can be carried out; elsewhere a buffer stays as it was. Behind a no, its slices are not looked at.
use Rattle.std.specs.Prelude.{ℕ, ◌+◌, ◌-◌, ◌*◌, Bool, true, false, cond, not, ◌&&◌, ◌||◌, List, [], ◌∷◌, ◌++◌, length, get_or, take, drop, ℤ, pos, negsuc, ◌==◌, nat_le, nat_lt, slice_index_or, slice_set, Float, Ok, Err}
use Rattle.std.proofs.Math.Seq.{paste}
use Rattle.std.specs.Float.Ieee as Ieee
use Rattle.std.specs.Float.{nan, binary32}
use Rattle.util.specs.Util.{absf32}
use Rattle.ieee.specs.F32.{zero32, ◌>₃₂◌, ◌+₃₂◌, ◌-₃₂◌, ◌*₃₂◌, ◌/₃₂◌}
use Rattle.ieee.specs.F64.{◌-₆₄◌}
use Rattle.ieee.specs.Round.{narrow}
use Rattle.types.specs.declared.Refusal.TheVariants.{Range, Length}
use Rattle.descriptor.specs.Checks.{sizes_ok, dimension, last_points_ok}
use Rattle.attributors.specs.Attributors.{asked_indices, padded, row_fits}
use Rattle.corrector.specs.Const.{factor32}
use Rattle.types.specs.Refusals.{Answer}
unfoldable pub use Rattle.attributors.specs.Attributors.{for_up_to}

-- for i in indices { answer[i] = prediction[i] }
unfoldable pub predicted : List ℕ → List Float → List Float → List Float
predicted [] prediction answer = answer
predicted (i ∷ indices) prediction answer = predicted indices prediction (slice_set answer i (slice_index_or prediction i nan))

-- expected_point: the point with the conditional median at the indices for which the forest is asked.
unfoldable pub expected_point : List Float → List Float → ℕ → ℕ → List Float → List Float → List Float
expected_point high low position base point median = predicted (asked_indices high low position base) median point

-- The row from position on lies in the attribution, and all others are as long as this.
unfoldable pub expected_fits : (high low position base point median out : ℕ) → Bool
expected_fits high low position base point median out = row_fits high low position base && (point == high && (median == high && out == high))

-- A row of a point, of 16 coordinates, zero where there are none; zeros where the row does not fit.
unfoldable pub row_at : List Float → ℕ → ℕ → List Float
row_at point start base = padded zero32 16 (cond (row_fits (length point) (length point) start base) (take base (drop start point)) [])

-- The row of the expected point from position on, of 16 coordinates, zero where there are none; zeros where the row does not fit.
unfoldable pub expected_row : List Float → List Float → ℕ → ℕ → List Float → List Float → List Float
expected_row high low position base point median =
    padded zero32 16
    (cond (expected_fits (length high) (length low) position base (length point) (length median) (length point))
    (take base (drop position (expected_point high low position base point median)))
    [])

-- The buffer after a row was written: the point with the row's first coordinates from start on, or as it was where something does not fit.
unfoldable pub write_row : List Float → ℕ → ℕ → List Float → List Float → List Float
write_row point start base row out = cond (row_fits (length point) (length out) start base) (paste point start row base) out

-- The buffer after the step: the expected point, or as it was where something does not fit.
abbrev pub write_expected_point : List Float → List Float → ℕ → ℕ → List Float → List Float → List Float → List Float
write_expected_point high low position base point median out =
    cond (expected_fits (length high) (length low) position base (length point) (length median) (length out))
    (expected_point high low position base point median)
    out

-- sum + |a - b|, the difference narrowed.
unfoldable pub plus_difference : Float → Float → Float → Float
plus_difference sum a b = sum +₃₂ absf32 (narrow (a -₆₄ b))

-- How far candidate and ideal are apart in the n coordinates from start on: low, then high, of each coordinate.
unfoldable pub differential_remainder : List Float → List Float → List Float → List Float → ℕ → ℕ → Float
differential_remainder high low ideal_high ideal_low start n =
    for_up_to
    (λ sum i.
    plus_difference (plus_difference sum (slice_index_or low (start + i) nan) (slice_index_or ideal_low (start + i) nan)) (slice_index_or high (start + i) nan) (slice_index_or ideal_high (start + i) nan))
    zero32 n

-- The trigger's two tests of a remainder, for a difference below the dimensions.
unfoldable pub exceeds : Float → ℕ → ℕ → Float → Float → Bool
exceeds remainder dimensions difference last_score threshold =
    (remainder >₃₂ factor32 *₃₂ last_score)
    && (remainder *₃₂ Ieee.of_int binary32 (pos dimensions) /₃₂ Ieee.of_int binary32 (pos difference) >₃₂ threshold)

-- The four slices equally long, at most 65,536, and base 1 to 65,536.
unfoldable pub trigger_fits : (high low base ideal_high ideal_low : ℕ) → Bool
trigger_fits high low base ideal_high ideal_low =
    (low == high) && (ideal_high == high && (ideal_low == high && (nat_le high 65536 && (nat_lt 0 base && nat_le base 65536))))

-- trigger: true without a last anomaly or its attribution, and where the slices do not fit; else by the coordinates that came since, true if all did.
unfoldable pub trigger : List Float → List Float → ℕ → ℕ → List Float → List Float → Bool → Bool → Float → Float → Bool
trigger high low gap base ideal_high ideal_low has_anomaly has_attribution last_score threshold =
    let dimensions = length high in
    let difference = gap * base in
    cond (has_anomaly && has_attribution && trigger_fits dimensions (length low) base (length ideal_high) (length ideal_low) && nat_lt difference dimensions)
    (exceeds (differential_remainder high low ideal_high ideal_low (dimensions - difference) difference) dimensions difference last_score threshold)
    true

-- corrected[i] += anomalous[j] - expected[j]
abbrev pub amended_at : List Float → ℕ → List Float → List Float → ℕ → List Float
amended_at corrected i anomalous expected j =
    slice_set corrected i (slice_index_or corrected i nan +₃₂ (slice_index_or anomalous j nan -₃₂ get_or expected j nan))

-- The same for the n coordinates from `at` on, each by its fellow from `from` on.
unfoldable pub amended_row : List Float → ℕ → List Float → List Float → ℕ → ℕ → List Float
amended_row corrected at anomalous expected from n = for_up_to (λ row y. amended_at row (at + y) anomalous expected (from + y)) corrected n

-- The first coordinates of the point are replaced by those of the last expected point from `shift` on.
unfoldable pub shifted : List Float → List Float → ℕ → List Float
shifted point expected shift = drop shift expected ++ drop (length point - shift) point

-- Whether an index is 0.
abbrev pub is_zero : ℤ → Bool
is_zero (pos n) = n == 0
is_zero (negsuc n) = false

-- What was differenced against the last anomaly, put right: with differencing the row after it, else with time augmentation that row's time, its last coordinate.
unfoldable pub amended : List Float → List Float → List Float → ℕ → ℕ → Bool → Bool → List Float
amended corrected expected anomalous gap base use_difference time_augmented =
    let d = length corrected in
    cond use_difference (amended_row corrected (d - gap * base) anomalous expected (d - base) base)
    (cond time_augmented (amended_at corrected (d - (gap - 1) * base - 1) anomalous expected (d - 1)) corrected)

-- apply_basic_corrector: the point itself if all of it came since the last anomaly; else its first rows as they were expected then,
-- and if that anomaly lay in the newest row of its point, what was differenced against it put right.
unfoldable pub apply_basic_corrector : List Float → ℕ → ℕ → ℕ → Bool → List Float → List Float → ℤ → Bool → Bool → List Float
apply_basic_corrector point gap shingle base has_anomaly expected anomalous relative_index use_difference time_augmented =
    let corrected = cond (nat_lt gap shingle) (shifted point expected (gap * base)) point in
    cond (nat_lt shingle gap || not has_anomaly) point
    (cond (is_zero relative_index) (amended corrected expected anomalous gap base use_difference time_augmented) corrected)

-- Sizes in range, and a point as long as they say.
unfoldable pub point_fits : (shingle base len : ℕ) → Bool
point_fits shingle base len = sizes_ok shingle base && len == dimension shingle base

-- A gap from 1 on, a point that fits, the buffer as long; behind a last anomaly its two points as well.
unfoldable pub corrector_fits : (point gap shingle base : ℕ) → Bool → (expected anomalous out : ℕ) → Bool
corrector_fits point gap shingle base has_anomaly expected anomalous out =
    point_fits shingle base point && (nat_lt 0 gap && (out == point && last_points_ok has_anomaly point expected anomalous))

-- The buffer after the step: the corrected point, or as it was where something does not fit.
abbrev pub write_corrected_point : List Float → ℕ → ℕ → ℕ → Bool → List Float → List Float → ℤ → Bool → Bool → List Float → List Float
write_corrected_point point gap shingle base has_anomaly expected anomalous relative_index use_difference time_augmented out =
    cond (corrector_fits (length point) gap shingle base has_anomaly (length expected) (length anomalous) (length out))
    (apply_basic_corrector point gap shingle base has_anomaly expected anomalous relative_index use_difference time_augmented)
    out

-- The answer to a point of this length: refusal 2 for a size out of range, then 3 for another length.
unfoldable pub newest_row_answer : (shingle base len : ℕ) → Answer
newest_row_answer shingle base len = cond (sizes_ok shingle base) (cond (len == dimension shingle base) (Ok tt) (Err Length)) (Err Range)

-- The newest row of a point, the part from dimension - base on; nothing where the point is refused.
unfoldable pub newest_row : List Float → ℕ → ℕ → List Float
newest_row point shingle base = cond (point_fits shingle base (length point)) (drop (length point - base) point) []
