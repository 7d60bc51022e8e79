-- The run as it meets one row after the other.
use Rattle.std.specs.Prelude.{ℕ, Bool, true, false, cond, not, List, []}
use Rattle.csv_rows.specs.declared.Entry.{Entry}
use Rattle.csv_rows.specs.declared.Row.{Row}
use Rattle.csv_rows.specs.declared.Row.TheVariants as Rows
use Rattle.basicthresholder.specs.declared.BasicThresholder.{BasicThresholder}
use Rattle.score_kinds.specs.declared.Kind.{Kind}
use Rattle.score_kinds.specs.declared.Counts.{Counts}
use Rattle.score_kinds.specs.Watching.{settings, kind_of, counted}
use Rattle.score_kinds.specs.Counting.{lines, no_lines, one_more}
use Rattle.score_rows.specs.Text.{row, bad_line, bad_row}
use Rattle.watched_rows.specs.Deciding.{is_watched, goes_on, first_number, next_number}
use Rattle.export_rows.specs.declared.Watch.{Watch}
use Rattle.export_rows.specs.declared.Ending.{Ending}
use Rattle.export_rows.specs.declared.Ending.TheVariants as Endings
use Rattle.export_rows.specs.declared.Course.{Course}
use Rattle.export_rows.specs.declared.Line.{Line}
use Rattle.export_rows.specs.declared.Line.TheVariants as Lines
use Rattle.export_rows.specs.declared.Taken.{Taken}

abbrev pub watch_of : BasicThresholder → ℕ → Counts → Watch
watch_of s drawer c = record { thresholder = s; drawer = drawer; counts = c }

-- Before the first row: no drawer has the number 0.
unfoldable pub unwatched : Watch
unwatched = watch_of settings 0 no_lines

-- The watch with one more row of its drawer, of that kind.
unfoldable pub with_row : Watch → Entry → Kind → Watch
with_row w e k = watch_of (counted w.thresholder e.score) e.drawer (one_more w.counts k)

abbrev pub course_of : Watch → ℕ → Ending → Course
course_of watch row ending = record { watch = watch; row = row; ending = ending }

abbrev pub taken_of : Course → Line → Taken
taken_of course line = record { course = course; line = line }

-- A run that has read nothing.
unfoldable pub begin : Course
unfolding unwatched
begin = course_of unwatched first_number Endings.Open

unfoldable pub is_open : Ending → Bool
is_open Endings.Open = true
is_open (Endings.Refused why) = false
is_open Endings.Full = false
is_open Endings.Counted = false

unfoldable pub ended : Course → Ending → Course
ended c ending = course_of c.watch c.row ending

-- The run after a row that does not end it.
unfoldable pub passed : Course → Watch → Course
passed c w = course_of w (next_number c.row) Endings.Open

-- A sound row of another drawer than the watched one, where there is one.
unfoldable pub is_passed_over : ℕ → Row → Bool
is_passed_over drawer Rows.Nothing = false
is_passed_over drawer Rows.Header = false
is_passed_over drawer (Rows.Sound e) = not (is_watched drawer e.drawer)
is_passed_over drawer (Rows.Faulty why) = false

-- A sound row: judged or skipped where it is the watched drawer's, else passed over.
unfoldable pub sound : Course → Entry → Taken
sound c e =
    cond (is_watched c.watch.drawer e.drawer)
    (cond (goes_on (lines c.watch.counts))
    (let k = kind_of c.watch.thresholder e.score in
    taken_of (passed c (with_row c.watch e k)) (Lines.Shown k))
    (taken_of (ended c Endings.Full) Lines.Full))
    (taken_of (passed c c.watch) Lines.Nothing)

-- A row that an open run meets.
unfoldable pub met : Course → Row → Taken
met c Rows.Nothing = taken_of c Lines.Nothing
met c Rows.Header = taken_of (passed c c.watch) Lines.Nothing
met c (Rows.Sound e) = sound c e
met c (Rows.Faulty why) = taken_of (ended c (Endings.Refused why)) (Lines.Faulty why)

-- A run that has ended stays as it is.
unfoldable pub taken : Course → Row → Taken
taken c r = cond (is_open c.ending) (met c r) (taken_of c Lines.Nothing)

-- The input has ended, and the counts are given.
unfoldable pub totalled : Course → Course
totalled c = cond (is_open c.ending) (ended c Endings.Counted) c

-- What the row with the number n prints.
unfoldable pub text : ℕ → Line → List ℕ
text n Lines.Nothing = []
text n (Lines.Shown k) = row n k
text n Lines.Full = bad_line n
text n (Lines.Faulty why) = bad_row n why
