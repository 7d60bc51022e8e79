-- What the training load prints for a whole input: the definition to believe. Input and output are lists of bytes; the quoted words are document 02's.
use Rattle.std.specs.Prelude.{ℕ, Bool, cond, ◌&&◌, List, [], ◌∷◌, ◌++◌, length, ◌==◌, nat_le, Float}
use Rattle.score_rows.specs.Text.{bytes, bits, bad_line}
use Rattle.score_lines.specs.Output.{all_digits, number, lines_from}
use Rattle.training_scores.specs.Recurrence.{scores}

-- "A seed line of 16 hexadecimal digits."
unfoldable pub is_seed : List ℕ → Bool
is_seed line = length line == 16 && all_digits 16 line

unfoldable pub seed_of : List ℕ → ℕ
seed_of line = number 16 0 line

-- "A line count from 0 to 65,536 in 1 to 5 decimal digits."
unfoldable pub count_of : List ℕ → ℕ
count_of line = number 10 0 line

unfoldable pub is_count : List ℕ → Bool
is_count line = nat_le 1 (length line) && (nat_le (length line) 5 && (all_digits 10 line && nat_le (count_of line) 65536))

-- A line of the score watch's input, and one for each score.
unfoldable pub score_line : Float → List ℕ
score_line x = bits x ++ bytes "\n"

unfoldable pub lines : List Float → List ℕ
lines [] = []
lines (x ∷ xs) = score_line x ++ lines xs

-- "The scores printed are the recurrence's first, as many as the count."
unfoldable pub load : ℕ → ℕ → List ℕ
load seed count = lines (scores seed count)

-- "The first faulty or missing line prints `bad line`, a space and its number (1 or 2), and no scores." Lines behind the second are not looked at.
unfoldable pub behind_seed : ℕ → List (List ℕ) → List ℕ
behind_seed seed [] = bad_line 2
behind_seed seed (line ∷ rest) = cond (is_count line) (load seed (count_of line)) (bad_line 2)

unfoldable pub printed : List (List ℕ) → List ℕ
printed [] = bad_line 1
printed (line ∷ rest) = cond (is_seed line) (behind_seed (seed_of line) rest) (bad_line 1)

-- The whole output, "by the score watch's rules for lines".
unfoldable pub output : List ℕ → List ℕ
output input = printed (lines_from [] input)
