-- Judging over C. The state, the reading, the last descriptor and the verdict are bytes; of the refusals that apply the smallest is answered, and nothing inside
-- a slice of another length is looked at.
use Rattle.std.specs.Prelude.{ℕ, ◌-◌, ◌≡◌, cond, List, eqb, ℤ, length, Float, Result, Err}
use Rattle.types.specs.Refusals.{number, answered}
use Rattle.types.specs.declared.Refusal.TheVariants.{Range, Length}
use Rattle.divector.specs.DiVector.{normalized}
use Rattle.descriptor.specs.Lent.{Lent}
use Rattle.predictorcorrector.specs.declared.PredictorCorrector.{PredictorCorrector}
use Rattle.detection.specs.Judging.{expected}
use Rattle.detection.specs.Judged.{outcome, outcome_number, state_after, index_after, written}
use Rattle.corrector.specs.Corrector.{newest_row_answer}
use Rattle.layout.specs.Places.{verdict_length}
use Rattle.layout.specs.Numbers.{bytes8}
use Rattle.layout.specs.Chain.{decode_state}
use Rattle.layout.specs.Readings.{decode_reading, decode_last}
use Rattle.detection.specs.declared.Verdict.{Verdict}
use Rattle.types.specs.declared.Refusal.{Refusal}
unfoldable pub use Rattle.layout.specs.Call.{codes_ok, slices_ok, sizes_fit}
unfoldable pub use Rattle.verdict_bytes.specs.Bytes.{told, changes_state, stored, state_left, verdict_left}

module _ (state reading last : List ℕ) (b : Lent) where
  -- The outcome. The four numbers are the lengths of the slices that may be written beside the state: expected point, attribution, verdict.
  unfoldable pub outcome_over : (e h w v : ℕ) → Result Verdict Refusal
  outcome_over e h w v =
      cond (codes_ok state reading last)
      (cond (slices_ok (length state) (length reading) (length last) (eqb v verdict_length))
      (outcome (decode_state state) (decode_reading reading) (decode_last last) b e h w)
      (cond (sizes_fit state reading) (Err Length) (Err Range)))
      (Err Range)

  -- The state after an outcome, and the relative index.
  unfoldable pub state_over : Result Verdict Refusal → PredictorCorrector
  state_over o = state_after (decode_state state) (decode_reading reading) (decode_last last) b o

  unfoldable pub index_over : Result Verdict Refusal → ℤ
  index_over o = index_after (decode_reading reading) (decode_last last) b o

  -- The contract: the answer n, and what stands in the slices afterwards.
  pub record Answered (n : ℕ) (e h w : List Float) (v state' : List ℕ) (e' h' w' : List Float) (v' : List ℕ) : Type 0 where
    pub answer : n ≡ outcome_number (outcome_over (length e) (length h) (length w) (length v))
    pub bytes : state' ≡ state_left (outcome_over (length e) (length h) (length w) (length v)) state (state_over (outcome_over (length e) (length h) (length w) (length v)))
    pub point : e' ≡ written (outcome_over (length e) (length h) (length w) (length v)) e (expected (decode_reading reading) (decode_last last) b)
    pub highs : h' ≡ written (outcome_over (length e) (length h) (length w) (length v)) h (normalized (decode_reading reading).score b.high b.low b.high)
    pub lows : w' ≡ written (outcome_over (length e) (length h) (length w) (length v)) w (normalized (decode_reading reading).score b.high b.low b.low)
    pub verdict : v' ≡ verdict_left (outcome_over (length e) (length h) (length w) (length v)) v (index_over (outcome_over (length e) (length h) (length w) (length v)))

-- The newest row's place in the caller's own point: the sizes and the point's length are refused before the slice that takes the place.
unfoldable pub newest_answer : (shingle base point out : ℕ) → ℕ
newest_answer shingle base point out =
    let n = answered (newest_row_answer shingle base point) in
    cond (eqb n 0) (cond (eqb out 8) 0 (number Length)) n

unfoldable pub newest_bytes : (shingle base point : ℕ) → List ℕ → List ℕ
newest_bytes shingle base point out = cond (eqb (newest_answer shingle base point (length out)) 0) (bytes8 (point - base)) out
