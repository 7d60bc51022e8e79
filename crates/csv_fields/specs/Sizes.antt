-- What is proved of the scores that are read. Their sizes: zero, or from 2 ^ -30 to 2 ^ 30 and positive, as the ledger comparison asks. A float x is num x / den x in size.
use Rattle.std.specs.Prelude.{◌≡◌, true, false, List, ◌++◌, ◌⊎◌, ℕ, ◌*◌, ◌^◌, ◌≤◌, T, pos, length, Float}
use Rattle.std.specs.Float.{fin, binary32}
use Rattle.std.specs.Float.Ieee.Positive.{num, den, positive}
use Rattle.decimal.specs.Nearest.{Nearest}
use Rattle.csv_fields.specs.Contents.{number, before, behind, is_score, score_of}

pub record Sized (x : Float) : Type 0 where
  pub positive : T (positive x)
  pub least : 1 * den x ≤ num x * 2 ^ 30
  pub most : num x * 1 ≤ 2 ^ 30 * den x

abbrev pub plus_zero : Float
plus_zero = fin false 0 (pos 0)

abbrev pub ZeroOrSized : Float → Type 0
ZeroOrSized x = (x ≡ plus_zero) ⊎ Sized x

-- Every score that is read is the `f32` nearest to its decimal, a tie going to the even one.
abbrev pub NearestScores : Type 0
NearestScores =
    (content : List ℕ) → is_score content ≡ true
    → Nearest binary32 (number 0 (before content ++ behind content)) (10 ^ length (behind content)) (score_of content)
