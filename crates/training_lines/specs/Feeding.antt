-- The run as it is fed its input byte by byte. `Whole` says that this prints `output`, and `NoMore` how much of the input it takes.
use Rattle.std.specs.Prelude.{◌≡◌, ℕ, ◌+◌, ◌*◌, ◌%◌, ◌^◌, ◌≤◌, Bool, true, false, cond, ◌&&◌, List, [], ◌∷◌, ◌++◌, length, drop, ◌==◌, nat_le, nat_lt}
use Prim.Native.Char.{code}
use Rattle.score_rows.specs.Text.{bad_line}
use Rattle.score_rows.specs.Feeding as Feeding
use Rattle.score_lines.specs.Output.{digit_of, is_digit}
use Rattle.training_lines.specs.declared.Run.{Run}
use Rattle.training_lines.specs.declared.Run.TheVariants.{Seed, Count, Both, Bad}
use Rattle.training_lines.specs.Output.{load, output}

-- A run that has read nothing.
unfoldable pub begin : Run
begin = Seed 0 0

-- A number with one more digit of the base, in 64 bits.
abbrev pub pushed : ℕ → ℕ → ℕ → ℕ
pushed n base digit = (n * base + digit) % 2 ^ 64

-- One byte of the first line, and of the second; `digits` are those that the number has.
unfoldable pub seed_step : ℕ → ℕ → ℕ → Run
seed_step seed digits b =
    cond (b == (code "\n")) (cond (digits == 16) (Count seed 0 0) (Bad 1))
    (cond (nat_lt digits 16 && is_digit 16 b) (Seed (pushed seed 16 (digit_of b)) (digits + 1)) (Bad 1))

unfoldable pub count_step : ℕ → ℕ → ℕ → ℕ → Run
count_step seed count digits b =
    cond (b == (code "\n")) (cond (nat_le 1 digits) (Both seed count) (Bad 2))
    (cond (nat_lt digits 5 && is_digit 10 b) (Count seed (pushed count 10 (digit_of b)) (digits + 1)) (Bad 2))

unfoldable pub step : Run → ℕ → Run
step (Seed seed digits) b = seed_step seed digits b
step (Count seed count digits) b = count_step seed count digits b
step (Both seed count) b = Both seed count
step (Bad line) b = Bad line

unfoldable pub is_over : Run → Bool
is_over (Seed seed digits) = false
is_over (Count seed count digits) = false
is_over (Both seed count) = true
is_over (Bad line) = true

abbrev pub fed : Run → List ℕ → Run
fed run bs = Feeding.fed step run bs

-- What is printed where nothing more is read.
unfoldable pub asked : ℕ → ℕ → List ℕ
asked seed count = cond (nat_le count 65536) (load seed count) (bad_line 2)

unfoldable pub closing : Run → List ℕ
closing (Seed seed digits) = cond (digits == 16) (bad_line 2) (bad_line 1)
closing (Count seed count digits) = cond (nat_le 1 digits) (asked seed count) (bad_line 2)
closing (Both seed count) = asked seed count
closing (Bad line) = bad_line line

-- A run that is fed its whole input prints its output.
abbrev pub Whole : Type 0
Whole = (input : List ℕ) → closing (fed begin input) ≡ output input

-- "Reads no more": a run that is over takes nothing; it is over with the second line's end, whatever the two lines hold, and at the latest with the 23rd byte; and so
-- what it has read settles the output.
pub record NoMore : Type 0 where
  pub still : (run : Run) (b : ℕ) → is_over run ≡ true → step run b ≡ run
  pub two_lines : (first second : List ℕ) → is_over (fed begin (first ++ (code "\n" ∷ (second ++ (code "\n" ∷ []))))) ≡ true
  pub short : (input : List ℕ) → 23 ≤ length input → is_over (fed begin input) ≡ true
  pub settled : (input rest : List ℕ) → is_over (fed begin input) ≡ true → output (input ++ rest) ≡ output input

-- A call that prints `text` at the front of the buffer, and answers where that ends. What is behind it stays.
pub record Prints (text out : List ℕ) (written : ℕ) (after : List ℕ) : Type 0 where
  pub place : written ≡ length text
  pub bytes : after ≡ text ++ drop (length text) out
