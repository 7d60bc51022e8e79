-- What a reading's scores count for, and the block that its attribution names.
use Rattle.std.specs.Prelude.{◌≡◌, ℕ, ◌-◌, Bool, cond, not, ◌&&◌, List, length, nat_le, nat_lt, Float, Result, Ok, Err}
use Rattle.std.specs.Float.Ieee as Ieee
use Rattle.types.specs.Codes.{is_height}
use Rattle.basicthresholder.specs.Const.{zero32}
use Rattle.basicthresholder.specs.Grades.{threshold_and_grade, primary_threshold_and_grade}
use Rattle.basicthresholder.specs.declared.BasicThresholder.{BasicThresholder}
use Rattle.basicthresholder.specs.declared.Graded.{Graded}
use Rattle.uncertainty_box.specs.Box.{explained_by_conditional_field}
use Rattle.corrector.specs.Corrector.{write_row, trigger}
use Rattle.divector.specs.DiVector.{all_alike, normalized, max_gap_contribution}
use Rattle.descriptor.specs.declared.Reading.{Reading}
use Rattle.descriptor.specs.declared.LastDescriptor.{LastDescriptor}
use Rattle.predictorcorrector.specs.State as State
use Rattle.predictorcorrector.specs.State.{with_thresholder}
use Rattle.predictorcorrector.specs.declared.PredictorCorrector.{PredictorCorrector}
use Rattle.types.specs.declared.Refusal.{Refusal}

-- Readings since the last anomaly; without one, since the start.
unfoldable pub gap_of : ℕ → Bool → ℕ → ℕ
gap_of seen has_anomaly last_seen = seen - cond has_anomaly last_seen 0

abbrev pub gap : Reading → LastDescriptor → ℕ
gap r l = gap_of r.values_seen l.has_anomaly l.anomaly.values_seen

-- The last anomaly is at most a shingle of readings back: in the shingle, or just out of it. The Rust asks for a gap above 0 besides, which every accepted reading has.
unfoldable pub is_recent : Bool → ℕ → ℕ → Bool
is_recent has_anomaly gap shingle = has_anomaly && nat_le gap shingle

abbrev pub recent : Reading → LastDescriptor → Bool
recent r l = is_recent l.has_anomaly (gap r l) r.shingle_size

-- A score of 0, of either sign, is skipped.
abbrev pub is_skipped : Float → Bool
is_skipped score = Ieee.eq score zero32

-- Threshold and grade of a score, by the reading's strategy. Of the reading's own score: the opening grade.
unfoldable pub opening : BasicThresholder → Reading → Float → Graded
opening t r score =
    cond (is_height r.scoring_strategy)
    (threshold_and_grade t score r.transform_method r.shingle_size)
    (primary_threshold_and_grade t score)

-- The last anomaly is recent, and the corrected point's grade is 0.
abbrev pub corrected_quiet : BasicThresholder → Reading → LastDescriptor → Bool
corrected_quiet t r l = recent r l && Ieee.eq (opening t r r.corrected_score).grade zero32

-- The score that counts as corrected: the corrected point's where the last anomaly is recent, otherwise the score itself.
unfoldable pub used_score : Bool → Reading → Float
used_score recent r = cond recent r.corrected_score r.score

-- The corrected score of a reading, by its gap.
unfoldable pub corrected_score : Reading → LastDescriptor → Float
corrected_score r l = used_score (recent r l) r

-- `update_score` of a reading: the thresholder with its scores counted.
unfoldable pub update_score : BasicThresholder → Reading → LastDescriptor → Float → BasicThresholder
update_score t r l corrected = State.update_score t r.scoring_strategy r.score corrected l.scoring_strategy l.score

-- Every accepted reading but one of score 0 enters the statistics, once.
unfoldable pub entered : PredictorCorrector → Reading → LastDescriptor → Float → PredictorCorrector
entered s r l corrected = with_thresholder s (update_score s.basic_thresholder r l corrected)

-- The block that a search answers, 0 where it is refused; it is not for the attribution of an accepted reading.
unfoldable pub block_of : Result ℕ Refusal → ℕ
block_of (Ok k) = k
block_of (Err why) = 0

-- The block that contributes most.
abbrev pub anomaly_block : Reading → LastDescriptor → (high low : List Float) → ℕ
anomaly_block r l high low = block_of (max_gap_contribution high low r.base_dimension (gap r l))

-- With auto adjust, enough neighbours lie within the box.
abbrev pub auto_explained : Bool → (box point : List Float) → ℕ → (scale neighbours : List Float) → Bool
auto_explained auto box point start scale neighbours = auto && explained_by_conditional_field box point start scale neighbours (length point)

-- The last anomaly is in the shingle, and the reading does not trigger anew.
abbrev pub explained_by_last : Reading → LastDescriptor → (high low ideal_high ideal_low : List Float) → Float → Bool
explained_by_last r l high low ideal_high ideal_low threshold =
    nat_lt (gap r l) r.shingle_size
    && not (trigger high low (gap r l) r.base_dimension ideal_high ideal_low l.has_anomaly l.anomaly.has_attribution l.anomaly.score threshold)

-- What a raised reading leaves in the three buffers, e (the point with its expected row), h and w (normalised attribution) at entry and e', h' and w' at exit.
pub record Written (r : Reading) (start : ℕ) (point row high low e h w e' h' w' : List Float) : Type 0 where
  pub point_is : e' ≡ write_row point start r.base_dimension row e
  pub highs : h' ≡ cond (all_alike high low h w) (normalized r.score high low high) h
  pub lows : w' ≡ cond (all_alike high low h w) (normalized r.score high low low) w
