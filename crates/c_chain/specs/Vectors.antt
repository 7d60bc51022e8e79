-- The calls on attribution vectors over C.
use Rattle.std.specs.Prelude.{ℕ, cond, List, eqb, length, Float, Result, Ok, Err}
use Rattle.types.specs.Refusals.{number, answered}
use Rattle.types.specs.declared.Refusal.TheVariants.{Length}
use Rattle.divector.specs.DiVector.{After}
use Rattle.layout.specs.Numbers.{f64_bytes, bytes8}
use Rattle.layout.specs.Left.{Left, left, put_into}
use Rattle.types.specs.declared.Refusal.{Refusal}

-- The answer, and what stands in the two slices afterwards.
pub record Pair : Type 0 where
  pub answer : ℕ
  pub highs : List Float
  pub lows : List Float

abbrev pub pair : ℕ → List Float → List Float → Pair
pair n hs ls = record { answer = n; highs = hs; lows = ls }

-- What a call on vectors leaves, its answer by the number.
abbrev pub numbered : After → Pair
numbered a = pair (answered a.answer) a.high a.low

-- A number into a slice of 8 bytes.
unfoldable pub number_into : Result Float Refusal → List ℕ → Left
number_into (Ok x) out = put_into 8 out (f64_bytes x)
number_into (Err why) out = left (number why) out

-- A block's place into a slice of 8 bytes: 3 for the slice goes before 8 for the search.
unfoldable pub block_into : Result ℕ Refusal → List ℕ → Left
block_into (Ok k) out = put_into 8 out (bytes8 k)
block_into (Err why) out = cond (eqb (length out) 8) (left (number why) out) (left (number Length) out)
