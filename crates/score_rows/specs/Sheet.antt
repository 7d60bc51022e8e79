-- The sheet that a watch of one drawer's scores prints, which the score watch and the export watch share: a header, a row for each line judged or skipped, one last line. Each
-- of the two says which lines those are, and how its run ends.
use Rattle.std.specs.Prelude.{ℕ, ◌≡◌, List, [], ◌∷◌, ◌++◌, length, Float}
use Rattle.types.specs.declared.Refusal.{Refusal}
use Rattle.basicthresholder.specs.declared.BasicThresholder.{BasicThresholder}
use Rattle.score_kinds.specs.declared.Kind.{Kind}
use Rattle.score_kinds.specs.declared.Counts.{Counts}
use Rattle.score_kinds.specs.Watching.{settings, kind_of, counted}
use Rattle.score_kinds.specs.Counting.{tally, lines}
use Rattle.score_rows.specs.Text.{header, row, bad_line, bad_row, counts}

-- A line judged or skipped: its number in the input, and its score.
pub record Reading : Type 0 where
  pub number : ℕ
  pub score : Float

-- How a run ends: its input is all read; or at the bad line of that number; or at the row of that number, with its error.
pub data End : Type 0 where
  AllRead : End
  Bad : ℕ → End
  Refused : ℕ → Refusal → End

pub record Sheet : Type 0 where
  pub readings : List Reading
  pub end : End

-- A sheet without a row, and one with a row before the others.
abbrev pub ends : End → Sheet
ends end = record { readings = []; end = end }

abbrev pub first : ℕ → Float → Sheet → Sheet
first n x sheet = record { readings = record { number = n; score = x } ∷ sheet.readings; end = sheet.end }

-- What the scores come to, each by the statistics of those before it.
unfoldable pub kinds : BasicThresholder → List Reading → List Kind
kinds s [] = []
kinds s (r ∷ rs) = kind_of s r.score ∷ kinds (counted s r.score) rs

-- A row for each line, by what its score comes to.
unfoldable pub rows : List Reading → List Kind → List ℕ
rows [] ks = []
rows (r ∷ rs) [] = []
rows (r ∷ rs) (k ∷ ks) = row r.number k ++ rows rs ks

-- "The three counts add up to the lines judged or skipped."
abbrev pub AddUp : Type 0
AddUp = (s : BasicThresholder) (rs : List Reading) → lines (tally (kinds s rs)) ≡ length rs

-- The counts are printed only where all is read.
unfoldable pub last_line : End → Counts → List ℕ
last_line AllRead c = counts c
last_line (Bad n) c = bad_line n
last_line (Refused n why) c = bad_row n why

unfoldable pub text : Sheet → List ℕ
text sheet =
    let ks = kinds settings sheet.readings in
    header ++ (rows sheet.readings ks ++ last_line sheet.end (tally ks))
