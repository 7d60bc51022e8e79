-- The bytes of a verdict, and those of the state after it.
use Rattle.std.specs.Prelude.{ℕ, Bool, true, false, cond, List, ℤ, Result, Ok, Err}
use Rattle.types.specs.Codes.{mode_code}
use Rattle.predictorcorrector.specs.declared.PredictorCorrector.{PredictorCorrector}
use Rattle.detection.specs.Const.{zero32}
use Rattle.detection.specs.declared.Verdict.{Verdict}
use Rattle.detection.specs.declared.Verdict.TheVariants.{Quiet, Corrected, Raised, Skipped}
use Rattle.layout.specs.Chain.{encode_state_over}
use Rattle.layout.specs.Readings.{verdict_bytes}
use Rattle.types.specs.declared.Refusal.{Refusal}

-- A verdict's bytes.
unfoldable pub told : Verdict → ℤ → List ℕ
told (Quiet t) index = verdict_bytes 0 0 t zero32 index
told (Corrected t m) index = verdict_bytes 1 (mode_code m) t zero32 index
told (Raised t g) index = verdict_bytes 2 0 t g index
told Skipped index = verdict_bytes 3 0 zero32 zero32 index

-- Every accepted reading but a skipped one changes the state.
unfoldable pub changes_state : Verdict → Bool
changes_state (Quiet t) = true
changes_state (Corrected t m) = true
changes_state (Raised t g) = true
changes_state Skipped = false

-- The bytes xs of a state that became s: a skipped reading leaves them as they are.
unfoldable pub stored : Verdict → List ℕ → PredictorCorrector → List ℕ
stored v xs s = cond (changes_state v) (encode_state_over xs s) xs

-- A refusal leaves every byte as it came.
unfoldable pub state_left : Result Verdict Refusal → List ℕ → PredictorCorrector → List ℕ
state_left (Ok v) xs s = stored v xs s
state_left (Err why) xs s = xs

unfoldable pub verdict_left : Result Verdict Refusal → List ℕ → ℤ → List ℕ
verdict_left (Ok v) xs index = told v index
verdict_left (Err why) xs index = xs
