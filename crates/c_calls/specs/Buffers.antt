-- The calls on a reading's buffers over C: what each answers, and what stands in the slice that it may write. Of several refusals the smallest is answered; nothing
-- inside a slice of another length is looked at.
use Rattle.std.specs.Prelude.{ℕ, cond, ◌&&◌, List, ◌∷◌, eqb, leb, ℤ, length, Float, Result, Ok, Err}
use Rattle.types.specs.Refusals.{number, answered, Answer}
use Rattle.types.specs.declared.Refusal.{Refusal}
use Rattle.types.specs.declared.Refusal.TheVariants.{Range, Length}
use Rattle.descriptor.specs.Checks.{sizes_ok}
use Rattle.corrector.specs.Corrector as Corrector
use Rattle.layout.specs.Places.{state_length}
use Rattle.layout.specs.Chain.{decode_state, state_codes_ok}
use Rattle.layout.specs.InPlace.{stored_by}
use Rattle.layout.specs.Left.{Left, left}
use Rattle.calls.specs.declared.Missing.{Missing}
use Rattle.calls.specs.Calls as Calls
use Rattle.types.specs.declared.Updated.{Updated}
use Rattle.predictorcorrector.specs.declared.PredictorCorrector.{PredictorCorrector}

-- The answer's number, and the floats of the slice.
pub record Filled : Type 0 where
  pub answer : ℕ
  pub floats : List Float

abbrev pub filled : ℕ → List Float → Filled
filled n xs = record { answer = n; floats = xs }

-- What a call that answers a leaves of the slice out, which is to hold new.
unfoldable pub filled_by : Answer → (new out : List Float) → Filled
filled_by a new out = filled (answered a) (Calls.written a new out)

unfoldable pub expected_point : (shingle base position : ℕ) → (point high low median out : List Float) → Filled
expected_point shingle base position point high low median out =
    filled_by (Calls.expected_answer shingle base position point high low median (length out)) (Corrector.expected_point high low position base point median) out

-- What a call that found m leaves of a slice of eight: the block, where its row starts, how many indices there are, and five places for them, 0 behind the last.
unfoldable pub placed_by : Result Missing Refusal → List ℕ → Left
placed_by (Ok m) out = left 0 (m.block ∷ m.start ∷ m.count ∷ m.indices)
placed_by (Err why) out = left (number why) out

-- A slice of another length is refused behind the sizes and before the rest.
unfoldable pub likely_missing_indices : (shingle base gap : ℕ) → (high low : List Float) → (out : List ℕ) → Left
likely_missing_indices shingle base gap high low out =
    cond (sizes_ok shingle base)
    (cond (eqb (length out) 8) (placed_by (Calls.likely_missing_indices shingle base gap high low) out) (left (number Length) out))
    (left (number Range) out)

-- A yes/no byte above 1 is refused (2) ahead of everything else.
unfoldable pub corrector_answer : (shingle base gap : ℕ) → (point : List Float) → (has : ℕ) → (expected anomalous : List Float) → (difference time out : ℕ) → Answer
corrector_answer shingle base gap point has expected anomalous difference time out =
    cond (leb has 1 && (leb difference 1 && leb time 1)) (Calls.corrector_answer shingle base gap point (eqb has 1) expected anomalous out) (Err Range)

unfoldable pub apply_basic_corrector : (point : List Float) → (gap shingle base has : ℕ) → (expected anomalous : List Float) → ℤ → (difference time : ℕ) → (out : List Float) → Filled
apply_basic_corrector point gap shingle base has expected anomalous index difference time out =
    filled_by (corrector_answer shingle base gap point has expected anomalous difference time (length out))
    (Corrector.apply_basic_corrector point gap shingle base (eqb has 1) expected anomalous index (eqb difference 1) (eqb time 1)) out

-- What an update leaves of the state's bytes: those of entries that do not exist stay.
abbrev pub updated_by : Updated PredictorCorrector → List ℕ → Left
updated_by c xs = left (answered c.answer) (stored_by c.answer xs c.state)

-- Where the state cannot be read, its base is taken for 1.
unfoldable pub update_auto_adjust : (state : List ℕ) → (shingle : ℕ) → (point : List Float) → Left
update_auto_adjust state shingle point =
    cond (state_codes_ok state)
    (cond (eqb (length state) state_length)
    (updated_by (Calls.update_auto_adjust (decode_state state) shingle point) state)
    (cond (sizes_ok shingle 1) (left (number Length) state) (left (number Range) state)))
    (left (number Range) state)
