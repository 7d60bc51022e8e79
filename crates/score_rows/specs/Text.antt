-- The lines that a watch of scores prints, as lists of bytes.
use Rattle.std.specs.Prelude.{ℕ, zero, suc, ◌+◌, ◌/◌, ◌%◌, ◌≡◌, Bool, cond, List, [], ◌∷◌, ◌++◌, leb, ltb, length, Float}
use Prim.Native.Char.{code}
use Prim.Native.String.{String, [] as end, ◌∷◌ as ◌then◌}
use Rattle.std.proofs.Math.Seq.{paste}
use Rattle.std.specs.Float.Ieee.{to_bits}
use Rattle.std.specs.Float.{binary32}
use Rattle.io.specs.Digits.{hex_digit_ascii, last_digits}
use Rattle.types.specs.Refusals as Refusals
use Rattle.types.specs.declared.Refusal.{Refusal}
use Rattle.basicthresholder.specs.declared.Graded.{Graded}
use Rattle.score_kinds.specs.declared.Kind.{Kind}
use Rattle.score_kinds.specs.declared.Kind.TheVariants.{Skipped, Quiet, Raised}
use Rattle.score_kinds.specs.declared.Counts.{Counts}

-- The bytes of a text.
abbrev pub bytes : String → List ℕ
bytes end = []
bytes (c then text) = code c ∷ bytes text

-- n in decimal digits, at most k of them.
unfoldable pub decimal_by : ℕ → ℕ → List ℕ
decimal_by zero n = []
decimal_by (suc k) n = cond (ltb n 10) (hex_digit_ascii n ∷ []) (decimal_by k (n / 10) ++ (hex_digit_ascii (n % 10) ∷ []))

-- Twenty digits write every number below 2 ^ 64, which are the numbers of all rows that a run can have. (Of a longer number, which no run reaches, the last twenty.)
unfoldable pub decimal : ℕ → List ℕ
decimal n = decimal_by 20 n

-- The eight hexadecimal digits of a float's bits.
unfoldable pub bits : Float → List ℕ
bits x = last_digits 16 8 (to_bits binary32 x)

unfoldable pub header : List ℕ
header = bytes "line threshold grade\n"

-- What a row shows behind its number: threshold and grade, or two dashes where the score is skipped.
unfoldable pub graded : Graded → List ℕ
graded g = bits g.threshold ++ (bytes " " ++ bits g.grade)

unfoldable pub shown : Kind → List ℕ
shown Skipped = bytes "- -"
shown (Quiet g) = graded g
shown (Raised g) = graded g

unfoldable pub row : ℕ → Kind → List ℕ
row n k = decimal n ++ (bytes " " ++ (shown k ++ bytes "\n"))

-- A bad line by its number, and with the error of a row.
unfoldable pub bad : ℕ → List ℕ
bad n = bytes "bad line " ++ decimal n

unfoldable pub bad_line : ℕ → List ℕ
bad_line n = bad n ++ bytes "\n"

unfoldable pub bad_row : ℕ → Refusal → List ℕ
bad_row n why = bad n ++ (bytes " " ++ (decimal (Refusals.number why) ++ bytes "\n"))

unfoldable pub counts : Counts → List ℕ
counts c =
    bytes "quiet " ++ (decimal c.quiet ++ (bytes " raised " ++ (decimal c.raised ++ (bytes " skipped " ++ (decimal c.skipped ++ bytes "\n")))))

-- A text is written over `out` from the place `at` where that leaves room for the longest line (counts of twenty digits each), else nothing is. `end` is the place
-- behind it.
abbrev pub longest : ℕ
longest = 84

abbrev pub has_room : List ℕ → ℕ → Bool
has_room out at = leb (at + longest) (length out)

pub record Written (out : List ℕ) (at : ℕ) (text : List ℕ) (end : ℕ) (after : List ℕ) : Type 0 where
  pub place : end ≡ cond (has_room out at) (at + length text) at
  pub bytes : after ≡ cond (has_room out at) (paste out at text (length text)) out
