-- The recurrence of the training load, and its scores. The quoted words are document 02's. Definitions only.
use Rattle.std.specs.Prelude.{ℕ, zero, suc, ◌+◌, ◌*◌, ◌/◌, ◌%◌, ◌^◌, false, List, [], ◌∷◌, Float}
use Rattle.std.specs.Float.{binary32}
use Rattle.std.specs.Float.Ieee.{round}
use Rattle.training_scores.specs.declared.Stepped.{Stepped}

-- "A 64-bit unsigned state becomes state × 6364136223846793005 + 1442695040888963407, modulo 2^64."
unfoldable pub next : ℕ → ℕ
next state = (state * 6364136223846793005 + 1442695040888963407) % 2 ^ 64

-- The top 24 bits of a state of 64.
unfoldable pub top : ℕ → ℕ
top state = state / 2 ^ 40

-- "The top 24 bits of the new state, as a whole number over 2^24, are the score, exact in f32": nothing is rounded off (`ExactScores`).
unfoldable pub score : ℕ → Float
score state = round binary32 false (top state) (2 ^ 24)

-- A step: the new state, and its score.
unfoldable pub stepped : ℕ → Stepped
stepped state = record { state = next state; score = score (next state) }

-- A seed's first scores, as many as the count.
unfoldable pub scores : ℕ → ℕ → List Float
scores seed zero = []
scores seed (suc count) = score (next seed) ∷ scores (next seed) count
