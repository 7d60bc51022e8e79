-- Calls on a pool in turn, each by what it took, its answer and what it left. Definitions only.
use Rattle.std.specs.Prelude.{ℕ, ◌≡◌, List, [], ◌∷◌, Float}
use Rattle.descriptor.specs.Lent.{Lent}
use Rattle.layout.specs.Left.{left}
use Rattle.pool_drawers.specs.Drawers.{lay_out, opening, remove, list}
use Rattle.pool_settings.specs.Settings.{Setting, set}
use Rattle.pool_judging.specs.Judging.{Judged}

-- What a judgment takes: the bytes of the reading and of the last descriptor, the lent buffers, and the slices that it may write, as they stand: what it does not write
-- of them stays.
pub record Asked : Type 0 where
  pub reading : List ℕ
  pub last : List ℕ
  pub lent : Lent
  pub expected : List Float
  pub high : List Float
  pub low : List Float
  pub verdict : List ℕ

-- What it tells: its answer, and those slices afterwards.
pub record Reply : Type 0 where
  pub answer : ℕ
  pub expected : List Float
  pub high : List Float
  pub low : List Float
  pub verdict : List ℕ

-- A call on a pool. The last list is the pool's bytes afterwards; a listing, which cannot write the pool, has its slice before and after instead.
pub data Call : Type 0 where
  lays_out : ℕ → List ℕ → Call
  opens : (drawer : ℕ) → (discount : Float) → (adjust base answer : ℕ) → List ℕ → Call
  removes : (drawer answer : ℕ) → List ℕ → Call
  lists : List ℕ → ℕ → List ℕ → Call
  sets : (drawer : ℕ) → Setting → ℕ → List ℕ → Call
  judges : (drawer : ℕ) → Asked → Reply → List ℕ → Call

-- The call kept its contract over the pool xs.
abbrev pub Contract : List ℕ → Call → Type 0
Contract xs (lays_out n ys) = left n ys ≡ lay_out xs
Contract xs (opens d discount adjust base n ys) = left n ys ≡ opening d discount adjust base xs
Contract xs (removes d n ys) = left n ys ≡ remove d xs
Contract xs (lists out n out') = left n out' ≡ list xs out
Contract xs (sets d c n ys) = left n ys ≡ set c d xs
Contract xs (judges d a t ys) =
    Judged xs a.reading a.last a.lent t.answer a.expected a.high a.low a.verdict ys t.expected t.high t.low t.verdict d

-- The pool afterwards.
abbrev pub after : List ℕ → Call → List ℕ
after xs (lays_out n ys) = ys
after xs (opens d discount adjust base n ys) = ys
after xs (removes d n ys) = ys
after xs (lists out n out') = xs
after xs (sets d c n ys) = ys
after xs (judges d a t ys) = ys

-- What it answered.
abbrev pub answer_of : Call → ℕ
answer_of (lays_out n ys) = n
answer_of (opens d discount adjust base n ys) = n
answer_of (removes d n ys) = n
answer_of (lists out n out') = n
answer_of (sets d c n ys) = n
answer_of (judges d a t ys) = t.answer

-- What it may write beside the pool is as it was: a listing's slice, a judgment's four.
abbrev pub SlicesStay : Call → Type 0
SlicesStay (lays_out n ys) = Unit
SlicesStay (opens d discount adjust base n ys) = Unit
SlicesStay (removes d n ys) = Unit
SlicesStay (lists out n out') = out' ≡ out
SlicesStay (sets d c n ys) = Unit
SlicesStay (judges d a t ys) = (t.expected ≡ a.expected) × (t.high ≡ a.high) × (t.low ≡ a.low) × (t.verdict ≡ a.verdict)

-- Each over the bytes that the one before it left; a refused one is among them.
abbrev pub InTurn : List ℕ → List Call → Type 0
InTurn xs [] = Unit
InTurn xs (c ∷ cs) = Contract xs c × InTurn (after xs c) cs

abbrev pub after_all : List ℕ → List Call → List ℕ
after_all xs [] = xs
after_all xs (c ∷ cs) = after_all (after xs c) cs
