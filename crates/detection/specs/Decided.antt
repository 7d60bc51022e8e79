-- The contract of `judge`, which decides by how the state stands, without its lists: of these it is told the last entries alone.
use Rattle.std.specs.Prelude.{ℕ, ◌-◌, ◌≡◌, Bool, cond, List, length, replicate, take, drop, Float, Result, Ok, Err}
use Rattle.attributors.specs.Attributors.{padded}
use Rattle.divector.specs.DiVector.{normalized}
use Rattle.descriptor.specs.Checks.{answer_of}
use Rattle.descriptor.specs.Lent.{Lent}
use Rattle.descriptor.specs.declared.Reading.{Reading}
use Rattle.descriptor.specs.declared.LastDescriptor.{LastDescriptor}
use Rattle.predictorcorrector.specs.State.{run_ended, auto_adjusted, run_grown}
use Rattle.predictorcorrector.specs.declared.PredictorCorrector.{PredictorCorrector}
use Rattle.candidate.specs.Candidate.{is_candidate, candidate_with, drift_at}
use Rattle.detection.specs.Const.{zero32}
use Rattle.detection.specs.Judging.{opening, expected, newest_of, decided, is_drift_mode, corrected_score, entered}
use Rattle.detection.specs.Judged.{outcome_of, index_after, written}
use Rattle.detection.specs.declared.Verdict.{Verdict}
use Rattle.detection.specs.declared.Verdict.TheVariants.{Quiet, Corrected, Raised, Skipped}
use Rattle.predictorcorrector.specs.declared.Standing.{Standing}
use Rattle.detection.specs.declared.Decision.{Decision}
use Rattle.types.specs.declared.Refusal.{Refusal}

-- No row: sixteen zeros.
abbrev pub no_row : List Float
no_row = replicate 16 zero32

module _ (r : Reading) (l : LastDescriptor) (b : Lent) where
  -- The newest row of the expected point, zeros behind it.
  unfoldable pub newest_expected : List Float
  newest_expected = padded zero32 16 (newest_of r l b (expected r l b))

  -- The row that an outcome hands on: where the candidate branch may have counted it.
  unfoldable pub row_after : Result Verdict Refusal → List Float
  row_after (Ok (Quiet t)) = no_row
  row_after (Ok (Corrected t m)) = cond (is_drift_mode m) newest_expected no_row
  row_after (Ok (Raised t g)) = newest_expected
  row_after (Ok Skipped) = no_row
  row_after (Err why) = no_row

  module _ (k : Standing) where
    -- Data drift, by the last entries.
    unfoldable pub drift_of : Float → Bool
    drift_of threshold =
        drift_at (is_candidate r l k.run_length r.shingle_size threshold) k.auto_adjust k.run_length r.base_dimension
        k.last_actual k.last_expected (newest_of r l b b.point) (newest_of r l b (expected r l b)) b.difference_deviations

    -- The three numbers are the lengths of the buffers that may be written.
    unfoldable pub decision : ℕ → ℕ → ℕ → Result Verdict Refusal
    decision e h w =
        outcome_of (decided r l b k.basic_thresholder k.auto_adjust (drift_of (opening k.basic_thresholder r r.score).threshold))
        (answer_of r l b e h w k.base_dimension k.counts_ok)

  -- What judging leaves for the outcome o: the buffers e (expected point), h and w (normalised attribution) at entry, e', h' and w' at exit.
  pub record Decided (o : Result Verdict Refusal) (j : Decision) (e h w e' h' w' : List Float) : Type 0 where
    pub says : j.outcome ≡ o
    pub index : j.relative_index ≡ index_after r l b o
    pub row : j.newest_expected ≡ row_after o
    pub point : e' ≡ written o e (expected r l b)
    pub highs : h' ≡ written o h (normalized r.score b.high b.low b.high)
    pub lows : w' ≡ written o w (normalized r.score b.high b.low b.low)

-- What a verdict does to the state, by the point and the newest row of its expected point, which stands in front of `row`: `Judging.after`, where the row is that.
module _ (s : PredictorCorrector) (r : Reading) (l : LastDescriptor) where
  unfoldable pub rows_counted : Float → List Float → List Float → PredictorCorrector
  rows_counted threshold point row =
      candidate_with (is_candidate r l s.run_length r.shingle_size threshold) s (drop (length point - r.base_dimension) point) (take r.base_dimension row)

  module _ (point row : List Float) where
    unfoldable pub after_rows : Verdict → PredictorCorrector
    after_rows (Quiet t) = entered (run_ended s) r l r.score
    after_rows (Corrected t m) = entered (cond (is_drift_mode m) (rows_counted t point row) (auto_adjusted s point)) r l (corrected_score r l)
    after_rows (Raised t g) = entered (run_grown (rows_counted t point row)) r l (corrected_score r l)
    after_rows Skipped = s
