-- What a byte does and prints, how much that is, and what a turn of `feed` leaves. Assumes nothing.
use mathlib.Core.Path.{◌≡◌, ap₂, ◌∙◌}
use mathlib.Core.Bool.{true, false}
use mathlib.Core.List.{List, [], ◌++◌}
use Prim.Native.Nat.{ℕ, ◌≤◌}
use native.Mathlib.Nat.{le_refl, zero-add}
use native.Mathlib.Omega.{arith}
use lib.Dec.{eqb}
use lib.Ieee.{Float}
use lib.ListN.{length, drop, length-append}
use lib.Seq.{take_all}
use borrow.Author.Tests.{eq-eqb, ne_eqb}
use Rattle.std.specs.Prelude.{Option, Some, None}
use Rattle.score_lines.specs.declared.Run.{Run}
use Rattle.score_lines.specs.declared.Fed.{Fed}
use Rattle.score_kinds.specs.Counting.{lines}
use Rattle.score_rows.specs.Text.{bad_line, counts, longest}
use Rattle.score_lines.specs.Feeding.{run_of, line_number, pushed, line_of, ended, line_ended, line_said, said_by, taken, taken_said, step, said, total_said, Prints}
use Rattle.score_rows.specs.Steps.{Put}
use Rattle.score_rows.proofs.Bytes.{row_length, bad_line_length, counts_length, cond_length}

-- A run that is over reads on without a word.
module _ (run : Run) (over : run.over ≡ true) where
  pub over_step : (b : ℕ) → step run b ≡ run
  unfolding step
  over_step b = simp over

  pub over_said : (b : ℕ) → said run b ≡ []
  unfolding said
  over_said b = simp over

-- What a line, a byte and the end of the input print is short.
said_by_length : (run : Run) (l : Option Float) → length (said_by run l) ≤ longest
unfolding said_by
said_by_length run None = bad_line_length (line_number run)
said_by_length run (Some x) = row_length (line_number run) _

pub line_said_length : (run : Run) → length (line_said run) ≤ longest
unfolding line_said
line_said_length run = said_by_length run (line_of (lines run.counts) run.part)

pub said_length : (run : Run) (b : ℕ) → length (said run b) ≤ longest
unfolding said taken_said
said_length run b =
    cond_length run.over longest [] _ (omega arith)
    (cond_length (eqb b 10) longest (line_said run) _ (line_said_length run)
    (cond_length (eqb (pushed run.part b) 0) longest (bad_line (line_number run)) [] (bad_line_length (line_number run)) (omega arith)))

pub total_length : (run : Run) → length (total_said run) ≤ longest
unfolding total_said
total_length run = cond_length run.over longest [] (counts run.counts) (omega arith) (counts_length run.counts)

-- A byte: a line end, a byte that makes the line malformed, a digit.
module _ (run : Run) (b : ℕ) (going : run.over ≡ false) where
  pub line_step : b ≡ 10 → step run b ≡ line_ended run
  unfolding step
  line_step h = simp (going, eq-eqb b 10 h)

  pub line_said_lem : b ≡ 10 → said run b ≡ line_said run
  unfolding said
  line_said_lem h = simp (going, eq-eqb b 10 h)

  module _ (inside : b ≡ 10 → ⊥) where
    pub bad_step : pushed run.part b ≡ 0 → step run b ≡ ended run
    unfolding step taken
    bad_step h = simp (going, ne_eqb b 10 inside, eq-eqb (pushed run.part b) 0 h)

    pub bad_said : pushed run.part b ≡ 0 → said run b ≡ bad_line (line_number run)
    unfolding said taken_said
    bad_said h = simp (going, ne_eqb b 10 inside, eq-eqb (pushed run.part b) 0 h)

    pub digit_step : (pushed run.part b ≡ 0 → ⊥) → step run b ≡ run_of run.thresholder run.counts (pushed run.part b) run.over
    unfolding step taken
    digit_step h = simp (going, ne_eqb b 10 inside, ne_eqb (pushed run.part b) 0 h)

    pub digit_said : (pushed run.part b ≡ 0 → ⊥) → said run b ≡ []
    unfolding said taken_said
    digit_said h = simp (going, ne_eqb b 10 inside, ne_eqb (pushed run.part b) 0 h)

-- The contract of a call, from what it left; and what it has written is within the buffer.
fed_of : Run → ℕ → Fed
fed_of run written = record { run = run; written = written }

pub prints : {next : Run} {text out after : List ℕ} {r : Fed} → r.run ≡ next → Put out 0 text r.written after → Prints next text out r after
unfolding fed_of
prints {next} {text} {out} {after} {r} e p = record {
  answer = ap₂ fed_of e (p.place ∙ zero-add (length text));
  bytes = p.bytes ∙ ap₂ (λ (l : List ℕ) (k : ℕ). l ++ drop k out) (take_all (length text) text (le_refl (length text))) (zero-add (length text));
}

pub within : {next : Run} {text out after : List ℕ} {r : Fed} → Prints next text out r after → r.written ≤ length after
within {next} {text} {out} f = rw (f.answer, f.bytes, length-append text (drop (length text) out)) (omega arith)
