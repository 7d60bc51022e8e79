-- What the private stages ask of their buffers and promise each other: a reader need not read it. Every accepted reading gives it (proofs/Entry.antt).
use Rattle.std.specs.Prelude.{◌≡◌, ℕ, ◌+◌, ◌-◌, ◌≤◌, Bool, cond, ◌&&◌, List, ◌⊎◌, pos, length, Float, Result, Ok, Err}
use Rattle.std.specs.Float.Ieee as Ieee
use Rattle.std.specs.Float.{binary32}
use Rattle.types.specs.declared.CorrectionMode.TheVariants.{NOISE, ANOMALY_IN_SHINGLE, FORECAST, DATA_DRIFT}
use Rattle.basicthresholder.specs.declared.BasicThresholder.{BasicThresholder}
use Rattle.uncertainty_box.specs.Box.{within_unertainty_box}
use Rattle.corrector.specs.Steps.{Expecting, Correcting}
use Rattle.descriptor.specs.Lent.{Lent}
use Rattle.descriptor.specs.declared.Reading.{Reading}
use Rattle.descriptor.specs.declared.LastDescriptor.{LastDescriptor}
use Rattle.candidate.specs.Candidate.{is_candidate, drift_at}
use Rattle.detection.specs.Const.{zero32}
use Rattle.detection.specs.Judging.{gap_of, recent, opening, noise_pass, start, block, expected, late_verdict}
use Rattle.detection.specs.Decided.{no_row, drift_of}
unfoldable pub use Rattle.detection.specs.Decided.{rows_counted, after_rows}
use Rattle.detection.specs.declared.Way.{Way}
use Rattle.detection.specs.declared.Way.TheVariants as Ways
use Rattle.detection.specs.declared.Verdict.TheVariants.{Corrected, Raised}
use Rattle.predictorcorrector.specs.declared.PredictorCorrector.{PredictorCorrector}
use Rattle.predictorcorrector.specs.declared.Standing.{Standing}
use Rattle.detection.specs.declared.Decision.{Decision}
use Rattle.detection.specs.declared.Verdict.{Verdict}
use Rattle.types.specs.declared.Refusal.{Refusal}
use Rattle.types.specs.Refusals.{Answer}

-- The lengths fit the sizes: for the noise pass,
pub record Correctable (r : Reading) (l : LastDescriptor) (b : Lent) : Type 0 where
  pub point_most : length b.point ≤ 1024
  pub correcting : Correcting (length b.point) (gap_of r.values_seen l.has_anomaly l.anomaly.values_seen) r.shingle_size r.base_dimension l.has_anomaly (length b.last_expected) (length b.last_anomalous) (length b.point)

-- and for the exits past it.
pub record Branching (r : Reading) (l : LastDescriptor) (b : Lent) : Type 0 where
  pub shingle_most : r.shingle_size ≤ 64
  pub base_most : r.base_dimension ≤ 16
  pub point_most : length b.point ≤ 1024
  pub expecting : Expecting (length b.high) (length b.low) (start r l b) r.base_dimension (length b.point) (length b.median) (length b.point)
  pub block_small : block r l b ≤ 1024
  pub apart : (start r l b + r.base_dimension ≡ length b.point) ⊎ (start r l b + r.base_dimension ≤ length b.point - r.base_dimension)

-- The buffers that may be written, by their lengths.
pub record Writing (b : Lent) (e h w : ℕ) : Type 0 where
  pub expected_long : e ≡ length b.point
  pub low_long : length b.high ≡ length b.low
  pub out_high_long : length b.high ≡ h
  pub out_low_long : length b.high ≡ w

abbrev pub Accepting : Reading → LastDescriptor → Lent → Answer → Type 0
Accepting r l b (Ok _) = Correctable r l b
Accepting r l b (Err why) = Unit

-- ---- where a reading ends, up to the noise pass
module _ (r : Reading) (l : LastDescriptor) (b : Lent) (t : BasicThresholder) where
  unfoldable pub accepted_way : Way
  accepted_way =
      let opened = opening t r r.score in
      let working = Ieee.mul binary32 opened.grade (noise_pass r l b) in
      cond (Ieee.eq r.score zero32) Ways.Skipped
      (cond (Ieee.eq opened.grade zero32) (Ways.Quiet opened.threshold)
      (cond (recent r l b && Ieee.eq (opening t r r.corrected_score).grade zero32) (Ways.Corrected opened.threshold ANOMALY_IN_SHINGLE)
      (cond (Ieee.eq working zero32) (Ways.Corrected opened.threshold NOISE) (Ways.Past opened.threshold working))))

  unfoldable pub way : Answer → Way
  way (Ok tt) = accepted_way
  way (Err why) = Ways.Refused why

-- ---- past it
-- Data drift by the newest rows.
unfoldable pub drift_by : Standing → Reading → LastDescriptor → Float → List Float → List Float → List Float → Bool
drift_by k r l threshold newest row noise =
    drift_at (is_candidate r l k.run_length r.shingle_size threshold) k.auto_adjust k.run_length r.base_dimension k.last_actual k.last_expected newest row noise

module _ (k : Standing) (r : Reading) (l : LastDescriptor) (b : Lent) where
  unfoldable pub late_outcome : Float → Float → Result Verdict Refusal
  late_outcome t g = Ok (late_verdict r l b k.auto_adjust (drift_of r l b k t) t g)

  -- From the expected point on, for the box u.
  unfoldable pub expected_outcome : List Float → Float → Float → Result Verdict Refusal
  expected_outcome u t g =
      Ok (cond (within_unertainty_box u (start r l b) b.scale b.point (expected r l b)) (Corrected t FORECAST)
      (cond (drift_of r l b k t) (Corrected t DATA_DRIFT) (Raised t g)))

-- ---- an outcome short of the candidate branch
unfoldable pub without_row : Result Verdict Refusal → Decision
without_row o = record { outcome = o; relative_index = pos 0; newest_expected = no_row }

-- ---- what an outcome does to the state, by the point and the row that it hands on
unfoldable pub state_rows : PredictorCorrector → Reading → LastDescriptor → (point row : List Float) → Result Verdict Refusal → PredictorCorrector
state_rows s r l point row (Ok v) = after_rows s r l point row v
state_rows s r l point row (Err why) = s

-- ---- what a verdict does to the state asks of a reading
pub record Counting (r : Reading) (point : ℕ) : Type 0 where
  pub shingle_most : r.shingle_size ≤ 64
  pub base_most : r.base_dimension ≤ 16
  pub inside : r.base_dimension ≤ point

abbrev pub Fitting : Reading → ℕ → Result Verdict Refusal → Type 0
Fitting r point (Ok v) = Counting r point
Fitting r point (Err why) = Unit
