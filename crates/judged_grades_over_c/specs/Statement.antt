-- A higher score never opens with a lower grade, over C: what this crate proves. Definitions only.
use Rattle.std.specs.Prelude.{ℕ, ◌≡◌, not, ◌⊎◌, List, T, length}
use Rattle.std.specs.Float.Ieee.{le, is_nan}
use Rattle.layout.specs.Places.{state_length, initial_threshold_at}
use Rattle.layout.specs.Numbers.{f32_at}
use Rattle.layout.specs.Chain.{decode_state}
use Rattle.layout.specs.Readings.{decode_reading}
use Rattle.demand3_over_c.specs.Calls.{Judging, Contract, score_of, kind_in, grade_in}
use Rattle.demand3_over_c.specs.Calm.{made}
use Rattle.judged_grades.specs.Drawers.{ReachedDrawer}
use Rattle.judged_grades.specs.Statement.{with_score}
use Rattle.judged_grades_over_c.specs.Stored.{ReachedStored}

-- What the bytes ys of the smaller score's verdict and ys' of the larger's say: kind 0 is quiet, 2 raised, 3 skipped.
pub record TellsOverC (ys ys' : List ℕ) : Type 0 where
  pub quiet : kind_in ys' ≡ 0 → (kind_in ys ≡ 0) ⊎ (kind_in ys ≡ 3)
  pub raised : kind_in ys ≡ 2 → kind_in ys' ≡ 2 → T (le (grade_in ys) (grade_in ys'))

pub record HigherJudgedOverC : Type 0 where
  -- Bytes that calls reach hold a state that calls reach; a new one's are such bytes, made in any of their length.
  pub held : (xs : List ℕ) → ReachedStored xs → ReachedDrawer (decode_state xs)
  pub met : (out : List ℕ) → length out ≡ state_length → ReachedStored (made out)
  -- Two calls over them that answered 0, of readings that differ in the score alone; the initial threshold in them is not NaN.
  pub judged : (xs : List ℕ) → ReachedStored xs → T (not (is_nan (f32_at xs initial_threshold_at)))
      → (c c' : Judging) → Contract xs c → Contract xs c' → c.answer ≡ 0 → c'.answer ≡ 0
      → decode_reading c'.reading ≡ with_score (decode_reading c.reading) (score_of c') → T (le (score_of c) (score_of c'))
      → TellsOverC c.verdict' c'.verdict'
