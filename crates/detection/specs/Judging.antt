-- `detect_and_modify` exit by exit: what the watch says of an accepted reading, and the state and buffers that it leaves.
-- Its leaves are in `crates/scoring` and `crates/candidate`, and pass through here.
use Rattle.std.specs.Prelude.{ℕ, ◌-◌, ◌*◌, Bool, true, false, cond, ◌&&◌, not, List, ltb, ℤ, pos, ◌+ℤ◌, ◌-ℤ◌, length, drop, replicate, Float}
use Rattle.std.specs.Float.Ieee as Ieee
use Rattle.std.specs.Float.{binary32}
use Rattle.types.specs.Codes.{is_differenced}
use Rattle.types.specs.declared.CorrectionMode.{CorrectionMode}
use Rattle.types.specs.declared.CorrectionMode.TheVariants.{NONE, NOISE, MULTI_MODE, ANOMALY_IN_SHINGLE, CONDITIONAL_FORECAST, FORECAST, DATA_DRIFT}
use Rattle.basicthresholder.specs.declared.BasicThresholder.{BasicThresholder}
use Rattle.uncertainty_box.specs.Box.{uncertainty_box, within_unertainty_box, explained_by_conditional_field}
use Rattle.uncertainty_box.specs.Pass.{centered_transform_pass}
use Rattle.corrector.specs.Corrector.{apply_basic_corrector, expected_point, trigger}
use Rattle.descriptor.specs.Lent.{Lent}
use Rattle.descriptor.specs.declared.Reading.{Reading}
use Rattle.descriptor.specs.declared.LastDescriptor.{LastDescriptor}
use Rattle.predictorcorrector.specs.State.{run_ended, auto_adjusted, run_grown}
use Rattle.predictorcorrector.specs.declared.PredictorCorrector.{PredictorCorrector}
use Rattle.scoring.specs.Scores as Scores
unfoldable pub use Rattle.scoring.specs.Scores.{gap_of, is_recent, opening, corrected_score, update_score, entered, block_of}
unfoldable pub use Rattle.candidate.specs.Candidate.{is_candidate, candidate_with, is_drift}
use Rattle.detection.specs.Const.{zero32}
use Rattle.detection.specs.declared.Verdict.{Verdict}
use Rattle.detection.specs.declared.Verdict.TheVariants.{Quiet, Corrected, Raised, Skipped}

-- The mode of the candidate branch, which counts the newest rows; the others count the oldest.
abbrev pub is_drift_mode : CorrectionMode → Bool
is_drift_mode NONE = false
is_drift_mode NOISE = false
is_drift_mode MULTI_MODE = false
is_drift_mode ANOMALY_IN_SHINGLE = false
is_drift_mode CONDITIONAL_FORECAST = false
is_drift_mode FORECAST = false
is_drift_mode DATA_DRIFT = true

module _ (r : Reading) (l : LastDescriptor) (b : Lent) where
  unfoldable pub gap : ℕ
  gap = Scores.gap r l

  unfoldable pub recent : Bool
  recent = Scores.recent r l

  -- The point with the last anomaly's effect taken out.
  unfoldable pub corrected_point : List Float
  corrected_point =
      apply_basic_corrector b.point gap r.shingle_size r.base_dimension l.has_anomaly b.last_expected b.last_anomalous
      l.anomaly.relative_index (is_differenced r.transform_method) r.time_augmented

  -- 1, or 0 where the corrected point is noise.
  unfoldable pub noise_pass : Float
  noise_pass = centered_transform_pass r.base_dimension b.scale b.shift b.difference_deviations corrected_point

  -- The block that contributes most, and where it starts.
  unfoldable pub block : ℕ
  block = Scores.anomaly_block r l b.high b.low

  unfoldable pub start : ℕ
  start = block * r.base_dimension

  unfoldable pub box : List Float
  box =
      uncertainty_box b.point start b.scale b.shift b.difference_deviations (is_differenced r.transform_method)
      (replicate r.base_dimension zero32)

  unfoldable pub explained : Bool
  explained = explained_by_conditional_field box b.point start b.scale b.neighbours (length b.point)

  unfoldable pub expected : List Float
  expected = expected_point b.high b.low start r.base_dimension b.point b.median

  -- With the last anomaly in the shingle: whether the reading triggers anew.
  unfoldable pub triggered : Float → Bool
  triggered threshold =
      trigger b.high b.low gap r.base_dimension b.ideal_high b.ideal_low l.has_anomaly l.anomaly.has_attribution
      l.anomaly.score threshold

  unfoldable pub within_box : Bool
  within_box = within_unertainty_box box start b.scale b.point expected

  -- The newest rows of the point and of the expected point.
  unfoldable pub newest_of : List Float → List Float
  newest_of xs = drop (length b.point - r.base_dimension) xs

  -- The candidate branch, and whether it is data drift.
  unfoldable pub candidate_state : PredictorCorrector → Float → PredictorCorrector
  candidate_state s threshold = candidate_with (is_candidate r l s.run_length r.shingle_size threshold) s (newest_of b.point) (newest_of expected)

  unfoldable pub is_data_drift : PredictorCorrector → Float → Bool
  is_data_drift s threshold =
      is_drift (is_candidate r l s.run_length r.shingle_size threshold) s (candidate_state s threshold) r.base_dimension (newest_of b.point) (newest_of expected) b.difference_deviations

  -- The exits past the noise pass. `drift`: whether the last of them is data drift.
  unfoldable pub late_verdict : (auto drift : Bool) → Float → Float → Verdict
  late_verdict auto drift threshold working =
      cond (auto && explained) (Corrected threshold CONDITIONAL_FORECAST)
      (cond (ltb gap r.shingle_size && not (triggered threshold)) (Corrected threshold ANOMALY_IN_SHINGLE)
      (cond within_box (Corrected threshold FORECAST)
      (cond drift (Corrected threshold DATA_DRIFT) (Raised threshold working))))

  -- The exits past an opening grade above 0.
  unfoldable pub graded_verdict : BasicThresholder → (auto drift : Bool) → Float → Float → Verdict
  graded_verdict t auto drift threshold grade =
      let working = Ieee.mul binary32 grade noise_pass in
      cond (Scores.corrected_quiet t r l) (Corrected threshold ANOMALY_IN_SHINGLE)
      (cond (Ieee.eq working zero32) (Corrected threshold NOISE) (late_verdict auto drift threshold working))

  -- The way of an accepted reading.
  unfoldable pub decided : BasicThresholder → (auto drift : Bool) → Verdict
  decided t auto drift =
      let opened = opening t r r.score in
      cond (Scores.is_skipped r.score) Skipped
      (cond (Ieee.eq opened.grade zero32) (Quiet opened.threshold) (graded_verdict t auto drift opened.threshold opened.grade))

  -- What the watch says of it.
  unfoldable pub verdict : PredictorCorrector → Verdict
  verdict s = decided s.basic_thresholder s.auto_adjust (is_data_drift s (opening s.basic_thresholder r r.score).threshold)

  -- The state after a verdict.
  unfoldable pub after : PredictorCorrector → Verdict → PredictorCorrector
  after s (Quiet t) = entered (run_ended s) r l r.score
  after s (Corrected t m) = entered (cond (is_drift_mode m) (candidate_state s t) (auto_adjusted s b.point)) r l (corrected_score r l)
  after s (Raised t g) = entered (run_grown (candidate_state s t)) r l (corrected_score r l)
  after s Skipped = s

  -- Which block the anomaly is in, counted back from the newest, 0; 0 unless raised.
  unfoldable pub relative_index : Verdict → ℤ
  relative_index (Quiet t) = pos 0
  relative_index (Corrected t m) = pos 0
  relative_index (Raised t g) = pos block -ℤ pos r.shingle_size +ℤ pos 1
  relative_index Skipped = pos 0

-- What a verdict leaves in a lent buffer: `new` where it is raised, otherwise what was there.
unfoldable pub kept : Verdict → List Float → List Float → List Float
kept (Quiet t) old new = old
kept (Corrected t m) old new = old
kept (Raised t g) old new = new
kept Skipped old new = old
