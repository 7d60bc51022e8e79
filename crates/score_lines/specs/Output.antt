-- What the score watch prints for a whole input: the definition to believe. Input and output are lists of bytes.
use Rattle.std.specs.Prelude.{ℕ, ◌+◌, ◌-◌, ◌*◌, Bool, true, cond, ◌&&◌, List, [], ◌∷◌, ◌++◌, leb, ltb, eqb, length, Float}
use Prim.Native.Char.{code}
use Rattle.std.specs.Float.Ieee.{of_bits}
use Rattle.std.specs.Float.{binary32}
use Rattle.std.specs.Float.Ieee.Scale.{finite}
use Rattle.score_rows.specs.Sheet.{Sheet, AllRead, Bad, ends, first, text}
use Rattle.std.specs.Prelude.{Option, Some, None}

-- The value of a hexadecimal digit of either case; 16 for any other byte.
unfoldable pub digit_of : ℕ → ℕ
digit_of b =
    cond (leb (code "0") b && leb b (code "9")) (b - code "0")
    (cond (leb (code "A") b && leb b (code "F")) (b - (code "A" - 10))
    (cond (leb (code "a") b && leb b (code "f")) (b - (code "a" - 10)) 16))

-- Whether a byte, and whether all bytes, are digits of the base; and the number that digits write in it behind the number n.
unfoldable pub is_digit : ℕ → ℕ → Bool
is_digit base b = ltb (digit_of b) base

unfoldable pub all_digits : ℕ → List ℕ → Bool
all_digits base [] = true
all_digits base (b ∷ bs) = is_digit base b && all_digits base bs

unfoldable pub number : ℕ → ℕ → List ℕ → ℕ
number base n [] = n
number base n (b ∷ bs) = number base (n * base + digit_of b) bs

-- A finite score; anything else is a fault, which is none.
unfoldable pub finite_only : Float → Option Float
finite_only x = cond (finite x) (Some x) None

-- What the line with the number n holds: eight digits are the bits of a score. From line 65,537 on every line is a fault.
unfoldable pub read_line : ℕ → List ℕ → Option Float
read_line n line =
    cond (leb n 65536 && (eqb (length line) 8 && all_digits 16 line)) (finite_only (of_bits binary32 (number 16 0 line))) None

-- The lines of what follows the bytes `line` of a line. A line ends at a line end; the last one may lack that, and a line end that ends the input starts none.
unfoldable pub lines_from : List ℕ → List ℕ → List (List ℕ)
lines_from [] [] = []
lines_from (a ∷ line) [] = (a ∷ line) ∷ []
lines_from line (b ∷ bs) = cond (eqb b (code "\n")) (line ∷ lines_from [] bs) (lines_from (line ++ (b ∷ [])) bs)

-- By what a line holds: the one for a fault, or the one for its score.
unfoldable pub by_line : {A : Type 0} → Option Float → A → (Float → A) → A
by_line None bad good = bad
by_line (Some x) bad good = good x

-- The lines from number n on: a row for each, up to a bad one, which ends the run without counts.
unfoldable pub sheet_from : ℕ → List (List ℕ) → Sheet
sheet_from n [] = ends AllRead
sheet_from n (line ∷ rest) = by_line (read_line n line) (ends (Bad n)) (λ x. first n x (sheet_from (n + 1) rest))

unfoldable pub sheet : List ℕ → Sheet
sheet input = sheet_from 1 (lines_from [] input)

-- The whole output.
unfoldable pub output : List ℕ → List ℕ
output input = text (sheet input)
