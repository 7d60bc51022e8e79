-- What a call over C answers and leaves of the slice that it may write: the documents' number, 0 where it is done, and the slice's bytes (or sizes).
use Rattle.std.specs.Prelude.{ℕ, cond, List, length, ◌==◌}
use Rattle.types.specs.Refusals.{number}
use Rattle.types.specs.declared.Refusal.TheVariants.{Length}

pub record Left : Type 0 where
  pub answer : ℕ
  pub bytes : List ℕ

abbrev pub left : ℕ → List ℕ → Left
left n xs = record { answer = n; bytes = xs }

-- The bytes ys for a slice that must have n; 3 for a slice of another length.
unfoldable pub put_into : ℕ → List ℕ → List ℕ → Left
put_into n out ys = cond (length out == n) (left 0 ys) (left (number Length) out)
