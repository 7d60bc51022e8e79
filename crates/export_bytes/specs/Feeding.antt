-- The run as it is fed its input byte by byte; `Whole` says that this prints `output`, and `WholeEnding` that it ends as `ending` says, however the input is cut.
use Rattle.std.specs.Prelude.{ℕ, ◌+◌, ◌^◌, ◌<◌, ◌≡◌, Bool, cond, List, [], ◌++◌, length, drop}
use Rattle.csv_rows.specs.declared.Scan.{Scan}
use Rattle.csv_rows.specs.declared.Stepped.{Stepped}
use Rattle.csv_rows.specs.Scanning as Scanning
use Rattle.score_rows.specs.Text.{header, counts}
use Rattle.score_rows.specs.Feeding as Feeding
use Rattle.export_rows.specs.declared.Course.{Course}
use Rattle.export_rows.specs.Output.{output, ending}
use Rattle.export_rows.specs.Taking as Taking
use Rattle.export_bytes.specs.declared.Run.{Run}
use Rattle.export_bytes.specs.declared.Fed.{Fed}

abbrev pub run_of : Scan → Course → Run
run_of scan course = record { scan = scan; course = course }

-- A run that has read nothing.
unfoldable pub begin : Run
begin = run_of Scanning.begin Taking.begin

abbrev pub is_open : Run → Bool
is_open run = Taking.is_open run.course.ending

-- A row that the scan ended, or none: the run after it, and what it prints.
abbrev pub taken : Stepped → Course → Run
taken s c = run_of s.scan (Taking.taken c s.row).course

abbrev pub taken_said : Stepped → Course → List ℕ
taken_said s c = Taking.text c.row (Taking.taken c s.row).line

-- One byte of the input: the run after it, and what it prints. A run that is over reads no more.
unfoldable pub step : Run → ℕ → Run
step run b = cond (is_open run) (taken (Scanning.stepped run.scan b) run.course) run

unfoldable pub said : Run → ℕ → List ℕ
said run b = cond (is_open run) (taken_said (Scanning.stepped run.scan b) run.course) []

-- A part of the input, byte by byte.
abbrev pub fed : Run → List ℕ → Run
fed run bs = Feeding.fed step run bs

abbrev pub printed : Run → List ℕ → List ℕ
printed run bs = Feeding.printed step said run bs

-- The counts, unless the run is over.
unfoldable pub total_said : Course → List ℕ
total_said c = cond (Taking.is_open c.ending) (counts c.watch.counts) []

-- The end of the input: a last row without a line end, then the counts.
unfoldable pub closed : Run → Run
closed run =
    let s = Scanning.finished run.scan in
    run_of s.scan (Taking.totalled (Taking.taken run.course s.row).course)

unfoldable pub closing : Run → List ℕ
closing run =
    let s = Scanning.finished run.scan in
    taken_said s run.course ++ total_said (Taking.taken run.course s.row).course

-- The whole: however an input is cut, header, parts and end together print its output. The input is shorter than 2 ^ 64 - 1 bytes, so that
-- 64 bits hold every row's number.
abbrev pub Whole : Type 0
Whole =
    (parts : List (List ℕ)) → length (Feeding.joined parts) + 1 < 2 ^ 64
    → header ++ Feeding.in_parts step said closing begin parts ≡ output (Feeding.joined parts)

-- And however an input is cut, and however long it is, the run that is fed its parts and then finished ends as `ending` says of it.
abbrev pub WholeEnding : Type 0
WholeEnding = (parts : List (List ℕ)) → (closed (Feeding.fed_parts step begin parts)).course.ending ≡ ending (Feeding.joined parts)

-- A call that leaves the run `next` and prints `text` at the front of the buffer. What is behind it stays.
pub record Prints (next : Run) (text out : List ℕ) (r : Fed) (after : List ℕ) : Type 0 where
  pub answer : r ≡ record { run = next; written = length text }
  pub bytes : after ≡ text ++ drop (length text) out
