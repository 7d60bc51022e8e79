-- The contract of `put_verdict`: the answer n, and the bytes of state and verdict afterwards.
use Rattle.std.specs.Prelude.{ℕ, ◌≡◌, ◌&&◌, List, eqb, ℤ, length, Float, Result}
use Rattle.descriptor.specs.declared.Reading.{Reading}
use Rattle.descriptor.specs.declared.LastDescriptor.{LastDescriptor}
use Rattle.detection.specs.Judged.{outcome_of, outcome_number}
use Rattle.detection.specs.Decided.{after_rows}
use Rattle.detection.specs.declared.Verdict.{Verdict}
use Rattle.layout.specs.Places.{verdict_length}
use Rattle.layout.specs.Chain.{decode_state}
use Rattle.layout.specs.InPlace.{reading_answer, row_in_point}
use Rattle.verdict_bytes.specs.Bytes.{state_left, verdict_left}
use Rattle.types.specs.declared.Refusal.{Refusal}

-- The verdict, or the smallest refusal of the reading that the stored state and the slices meet: 2, 3 or 6.
unfoldable pub put_outcome : List ℕ → Reading → Verdict → (point verdict : ℕ) → Result Verdict Refusal
put_outcome state r v point verdict = outcome_of v (reading_answer state r (eqb verdict verdict_length && row_in_point r point))

-- row has the newest row of the expected point in front.
module _ (r : Reading) (l : LastDescriptor) (v : Verdict) (index : ℤ) (point row : List Float) where
  pub record Put (n : ℕ) (state verdict state' verdict' : List ℕ) : Type 0 where
    pub answer : n ≡ outcome_number (put_outcome state r v (length point) (length verdict))
    pub bytes : state' ≡ state_left (put_outcome state r v (length point) (length verdict)) state (after_rows (decode_state state) r l point row v)
    pub says : verdict' ≡ verdict_left (put_outcome state r v (length point) (length verdict)) verdict index
