-- The run as it is fed its input byte by byte; `Whole` says that this prints `output`, however the input is cut.
use Rattle.std.specs.Prelude.{ℕ, ◌+◌, ◌-◌, ◌*◌, ◌≡◌, Bool, true, false, cond, ◌&&◌, List, [], ◌++◌, leb, ltb, eqb, length, drop, Float}
use Prim.Native.Char.{code}
use Rattle.std.specs.Float.Ieee.{of_bits}
use Rattle.std.specs.Float.{binary32}
use Rattle.basicthresholder.specs.declared.BasicThresholder.{BasicThresholder}
use Rattle.std.specs.Prelude.{Option, Some, None}
use Rattle.score_lines.specs.declared.Run.{Run}
use Rattle.score_lines.specs.declared.Fed.{Fed}
use Rattle.score_kinds.specs.declared.Counts.{Counts}
use Rattle.score_kinds.specs.Watching.{settings, kind_of, counted}
use Rattle.score_kinds.specs.Counting.{lines, no_lines, one_more, tally}
use Rattle.score_rows.specs.Text.{header, row, bad_line, counts}
use Rattle.score_rows.specs.Sheet.{AllRead, kinds}
use Rattle.score_rows.specs.Feeding as Feeding
use Rattle.score_lines.specs.Output.{digit_of, finite_only, lines_from, sheet, output}

abbrev pub run_of : BasicThresholder → Counts → ℕ → Bool → Run
run_of s c part over = record { thresholder = s; counts = c; part = part; over = over }

-- A run that has read nothing.
unfoldable pub begin : Run
begin = run_of settings no_lines 1 false

-- The number of the line under way: skipped lines are numbered as judged ones are.
abbrev pub line_number : Run → ℕ
line_number run = lines run.counts + 1

-- The line under way with one more byte; 0 where that makes it malformed.
unfoldable pub pushed : ℕ → ℕ → ℕ
pushed part b = cond (ltb part 0x1_0000_0000 && ltb (digit_of b) 16) (part * 16 + digit_of b) 0

-- What a line with these digits behind a leading 1 holds, with so many lines before it.
unfoldable pub line_of : ℕ → ℕ → Option Float
line_of before part =
    cond (ltb before 65536 && (leb 0x1_0000_0000 part && ltb part 0x2_0000_0000)) (finite_only (of_bits binary32 (part - 0x1_0000_0000))) None

-- The run after a sound line, and after a bad one.
unfoldable pub with_score : Run → Float → Run
with_score run x = run_of (counted run.thresholder x) (one_more run.counts (kind_of run.thresholder x)) 1 false

unfoldable pub ended : Run → Run
ended run = run_of run.thresholder run.counts run.part true

-- The end of the line under way: the run after it and what it prints.
unfoldable pub ended_by : Run → Option Float → Run
ended_by run None = ended run
ended_by run (Some x) = with_score run x

unfoldable pub said_by : Run → Option Float → List ℕ
said_by run None = bad_line (line_number run)
said_by run (Some x) = row (line_number run) (kind_of run.thresholder x)

unfoldable pub line_ended : Run → Run
line_ended run = ended_by run (line_of (lines run.counts) run.part)

unfoldable pub line_said : Run → List ℕ
line_said run = said_by run (line_of (lines run.counts) run.part)

-- The line under way with one more byte that is no line end; a byte that makes it malformed ends the run.
unfoldable pub taken : Run → ℕ → Run
taken run part = cond (eqb part 0) (ended run) (run_of run.thresholder run.counts part run.over)

unfoldable pub taken_said : Run → ℕ → List ℕ
taken_said run part = cond (eqb part 0) (bad_line (line_number run)) []

-- One byte of the input: the run after it, and what it prints.
unfoldable pub step : Run → ℕ → Run
step run b = cond run.over run (cond (eqb b (code "\n")) (line_ended run) (taken run (pushed run.part b)))

unfoldable pub said : Run → ℕ → List ℕ
said run b = cond run.over [] (cond (eqb b (code "\n")) (line_said run) (taken_said run (pushed run.part b)))

-- A part of the input, byte by byte.
abbrev pub fed : Run → List ℕ → Run
fed run bs = Feeding.fed step run bs

abbrev pub printed : Run → List ℕ → List ℕ
printed run bs = Feeding.printed step said run bs

-- The counts, unless the run is over.
unfoldable pub total_run : Run → Run
total_run run = cond run.over run (ended run)

unfoldable pub total_said : Run → List ℕ
total_said run = cond run.over [] (counts run.counts)

-- The end of the input: a last line without a line end, then the counts.
unfoldable pub closed : Run → Run
closed run = cond run.over run (cond (eqb run.part 1) (total_run run) (total_run (line_ended run)))

unfoldable pub closing : Run → List ℕ
closing run = cond run.over [] (cond (eqb run.part 1) (total_said run) (line_said run ++ total_said (line_ended run)))

-- The whole: however the input is cut, header, parts and end together print its output.
abbrev pub Whole : Type 0
Whole = (parts : List (List ℕ)) → header ++ Feeding.in_parts step said closing begin parts ≡ output (Feeding.joined parts)

-- "The three counts add up to the lines judged or skipped", which are all lines of an input that is read to its end.
abbrev pub AddUp : Type 0
AddUp = (input : List ℕ) → (sheet input).end ≡ AllRead → lines (tally (kinds settings (sheet input).readings)) ≡ length (lines_from [] input)

-- A call that leaves the run `next` and prints `text` at the front of the buffer. What is behind it stays.
pub record Prints (next : Run) (text out : List ℕ) (r : Fed) (after : List ℕ) : Type 0 where
  pub answer : r ≡ record { run = next; written = length text }
  pub bytes : after ≡ text ++ drop (length text) out
