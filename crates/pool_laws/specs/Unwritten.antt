-- Document 02's "a state that is the same as the stored one is not written", of judgments: what this crate proves. Of settings it is the definition
-- (`stored_unless_same`). Definitions only.
use Rattle.std.specs.Prelude.{ℕ, ◌≡◌, List, length, Float}
use Rattle.descriptor.specs.Lent.{Lent}
use Rattle.c_judging.specs.Judging.{Answered, outcome_over, state_over}
use Rattle.pool_settings.specs.Settings.{stored_unless_same}

pub record Unwritten : Type 0 where
  -- The bytes zs of a state after a judgment, whatever its answer n.
  pub judged : (zs reading last : List ℕ) (b : Lent) (n : ℕ) (e h w : List Float) (v ys : List ℕ) (e' h' w' : List Float) (v' : List ℕ)
      → Answered zs reading last b n e h w v ys e' h' w' v'
      → ys ≡ stored_unless_same zs (state_over zs reading last b (outcome_over zs reading last b (length e) (length h) (length w) (length v)))
