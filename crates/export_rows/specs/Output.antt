-- What the export watch prints for a whole input, and how the run ends: the definitions to believe. `csv_rows` says what each row of the input holds (`readings_of`), up to the
-- first that is faulty; `score_kinds` what a score comes to, `score_rows` how the sheet looks; `watched_rows` which rows are the drawer's, how many it may have, and how rows are numbered.
use Rattle.std.specs.Prelude.{ℕ, ◌+◌, cond, List, [], ◌∷◌}
use Rattle.csv_rows.specs.declared.Row.{Row}
use Rattle.csv_rows.specs.declared.Row.TheVariants.{Nothing, Header, Sound, Faulty}
use Rattle.csv_rows.specs.Rows.{readings_of}
use Rattle.score_rows.specs.Sheet as Sheet
use Rattle.score_rows.specs.Sheet.{Sheet, End, ends, first, text}
use Rattle.watched_rows.specs.Deciding.{is_watched, goes_on, first_number}
use Rattle.export_rows.specs.declared.Ending.{Ending}
use Rattle.export_rows.specs.declared.Ending.TheVariants.{Refused, Full, Counted}

-- The rows from number n on, so many of the watched drawer's being before them: a row of the sheet for each sound one of that drawer. Rows of other drawers are passed over. The
-- drawer is 0 before the first row below the header, whose drawer is the watched one. (`Nothing` is no row; `readings_of` has none.)
-- "A faulty row prints `bad line`, its row number and the error, a space between; the drawer's 65,537th sound row prints the first two; either ends the run without counts."
unfoldable pub sheet_from : ℕ → ℕ → ℕ → List Row → Sheet
sheet_from n drawer before [] = ends Sheet.AllRead
sheet_from n drawer before (Nothing ∷ rest) = sheet_from n drawer before rest
sheet_from n drawer before (Header ∷ rest) = sheet_from (n + 1) drawer before rest
sheet_from n drawer before (Faulty why ∷ rest) = ends (Sheet.Refused n why)
sheet_from n drawer before (Sound e ∷ rest) =
    cond (is_watched drawer e.drawer)
    (cond (goes_on before) (first n e.score (sheet_from (n + 1) e.drawer (before + 1) rest)) (ends (Sheet.Bad n)))
    (sheet_from (n + 1) drawer before rest)

unfoldable pub sheet : List ℕ → Sheet
sheet input = sheet_from first_number 0 0 (readings_of input)

-- The whole output.
unfoldable pub output : List ℕ → List ℕ
output input = text (sheet input)

-- How the run over a whole input ends: with the counts behind the last row; at a faulty row, refused with its error; full at the drawer's 65,537th sound row.
unfoldable pub ending_of : End → Ending
ending_of Sheet.AllRead = Counted
ending_of (Sheet.Bad n) = Full
ending_of (Sheet.Refused n why) = Refused why

unfoldable pub ending : List ℕ → Ending
ending input = ending_of (sheet input).end
