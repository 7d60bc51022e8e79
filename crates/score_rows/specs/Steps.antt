-- What the private functions promise each other that write lines. A reader need not read it: no public contract mentions it.
use Rattle.std.specs.Prelude.{ℕ, ◌+◌, ◌≡◌, List, length}
use Rattle.std.proofs.Math.Seq.{paste}

-- ys written over xs from the place `at`, and the place behind them.
pub record Put (xs : List ℕ) (at : ℕ) (ys : List ℕ) (end : ℕ) (after : List ℕ) : Type 0 where
  pub place : end ≡ at + length ys
  pub bytes : after ≡ paste xs at ys (length ys)
