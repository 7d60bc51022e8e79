-- What is proved of a score: it is the top 24 bits of its state over 2 ^ 24, exactly.
use Rattle.std.specs.Prelude.{ℕ, ◌^◌, ◌<◌, false, T}
use Rattle.std.specs.Float.{binary32}
use Rattle.std.specs.Float.Ieee.{fits}
use Rattle.std.specs.Float.Ieee.Exact.{HasValue}
use Rattle.training_scores.specs.Recurrence.{top, score}

-- An `f32` holds it, and it is finite, not below zero, and that fraction (`HasValue`).
pub record ExactScore (state : ℕ) : Type 0 where
  pub bits : top state < 2 ^ 24
  pub held : T (fits binary32 (score state))
  pub value : HasValue (score state) false (top state) (2 ^ 24)

abbrev pub ExactScores : Type 0
ExactScores = (state : ℕ) → state < 2 ^ 64 → ExactScore state
