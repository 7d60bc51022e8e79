-- The contract of `detect_and_modify`: outcome, relative index, state, and each element of every buffer that it may write.
use Rattle.std.specs.Prelude.{ℕ, ◌≡◌, List, ℤ, pos, length, Float, Result, Ok, Err}
use Rattle.types.specs.Refusals.{number, Answer}
use Rattle.divector.specs.DiVector.{normalized}
use Rattle.descriptor.specs.Checks.{answer_of}
use Rattle.descriptor.specs.Lent.{Lent}
use Rattle.descriptor.specs.declared.Reading.{Reading}
use Rattle.descriptor.specs.declared.LastDescriptor.{LastDescriptor}
use Rattle.predictorcorrector.specs.State.{state_counts_ok}
use Rattle.predictorcorrector.specs.declared.PredictorCorrector.{PredictorCorrector}
use Rattle.detection.specs.Judging.{verdict, after, relative_index, kept, expected}
use Rattle.detection.specs.declared.Verdict.{Verdict}
use Rattle.detection.specs.declared.Judgment.{Judgment}
use Rattle.types.specs.declared.Refusal.{Refusal}

-- Document 01's number of an outcome: 0 for an accepted reading.
abbrev pub outcome_number : Result Verdict Refusal → ℕ
outcome_number (Ok v) = 0
outcome_number (Err why) = number why

-- The smallest refusal that applies, or the verdict.
unfoldable pub outcome_of : Verdict → Answer → Result Verdict Refusal
outcome_of v (Ok _) = Ok v
outcome_of v (Err why) = Err why

module _ (s : PredictorCorrector) (r : Reading) (l : LastDescriptor) (b : Lent) where
  -- The three numbers are the lengths of the buffers that may be written.
  unfoldable pub outcome : ℕ → ℕ → ℕ → Result Verdict Refusal
  outcome e h w = outcome_of (verdict r l b s) (answer_of r l b e h w s.base_dimension (state_counts_ok s))

  -- A refusal leaves state and buffers as they came.
  unfoldable pub state_after : Result Verdict Refusal → PredictorCorrector
  state_after (Ok v) = after r l b s v
  state_after (Err why) = s

unfoldable pub index_after : Reading → LastDescriptor → Lent → Result Verdict Refusal → ℤ
index_after r l b (Ok v) = relative_index r l b v
index_after r l b (Err why) = pos 0

-- What stands in a buffer afterwards.
unfoldable pub written : Result Verdict Refusal → List Float → List Float → List Float
written (Ok v) old new = kept v old new
written (Err why) old new = old

-- The contract, for the buffers e (expected point), h and w (normalised attribution) at entry and e', h' and w' at exit.
pub record Judged (s : PredictorCorrector) (r : Reading) (l : LastDescriptor) (b : Lent) (j : Judgment) (e h w e' h' w' : List Float) : Type 0 where
  pub says : j.outcome ≡ outcome s r l b (length e) (length h) (length w)
  pub state : j.state ≡ state_after s r l b (outcome s r l b (length e) (length h) (length w))
  pub index : j.relative_index ≡ index_after r l b (outcome s r l b (length e) (length h) (length w))
  pub point : e' ≡ written (outcome s r l b (length e) (length h) (length w)) e (expected r l b)
  pub highs : h' ≡ written (outcome s r l b (length e) (length h) (length w)) h (normalized r.score b.high b.low b.high)
  pub lows : w' ≡ written (outcome s r l b (length e) (length h) (length w)) w (normalized r.score b.high b.low b.low)
