-- What this crate's private functions promise each other. A reader need not read it: no public contract mentions it.
use Rattle.std.specs.Prelude.{ℕ, Bool, true, false, cond, List, Float, Ok, Err}
use Rattle.descriptor.specs.declared.Reading.{Reading}
use Rattle.descriptor.specs.declared.LastDescriptor.{LastDescriptor}
use Rattle.predictorcorrector.specs.State.{run_grown}
use Rattle.predictorcorrector.specs.declared.PredictorCorrector.{PredictorCorrector}
use Rattle.detection.specs.Judging.{corrected_score, entered, is_drift_mode}
use Rattle.detection.specs.Decided.{rows_counted}
use Rattle.detection.specs.declared.Verdict.{Verdict}
use Rattle.detection.specs.declared.Verdict.TheVariants.{Quiet, Corrected, Raised, Skipped}
use Rattle.verdict_bytes.specs.Bytes.{stored}
use Rattle.verdict_bytes.specs.declared.Change.{Change}
use Rattle.verdict_bytes.specs.declared.Change.TheVariants.{Ends, Adjusts, Counts, Stays}
use Rattle.types.specs.Refusals.{Answer}

-- What a verdict does to the run and the lists.
unfoldable pub change_of : Verdict → Change
change_of (Quiet t) = Ends
change_of (Corrected t m) = cond (is_drift_mode m) (Counts t false) Adjusts
change_of (Raised t g) = Counts t true
change_of Skipped = Stays

-- The state after the candidate branch, whose run may grow.
unfoldable pub rows_after : PredictorCorrector → Reading → LastDescriptor → Float → List Float → List Float → Bool → PredictorCorrector
rows_after s r l threshold point row grows =
    entered (cond grows (run_grown (rows_counted s r l threshold point row)) (rows_counted s r l threshold point row)) r l (corrected_score r l)

-- The bytes xs of a state that became s, by the answer.
unfoldable pub put_over : Answer → Verdict → List ℕ → PredictorCorrector → List ℕ
put_over (Ok _) v xs s = stored v xs s
put_over (Err why) v xs s = xs
