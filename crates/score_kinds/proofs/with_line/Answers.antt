use mathlib.Core.Path.{sym}
use native.Mathlib.Omega.{arith}
use borrow.Author.Tests.{lt-ltb, le-ltb}
use Rattle.score_kinds.specs.Counting.{lines, one_more, with_line}
use Rattle.score_kinds.proofs.with_line.Goals as goal

pub overflow_add-after : goal.overflow_add-after
unfolding lines
overflow_add-after c = omega (arith, c.lines.ensures.count, c.if-lines-lt-MOST_LINES.true)

pub overflow_add-after-in-Quiet : goal.overflow_add-after-in-Quiet
unfolding lines
overflow_add-after-in-Quiet c = omega (arith, c.lines.ensures.count, c.if-lines-lt-MOST_LINES.true)

pub overflow_add-after-in-Raised : goal.overflow_add-after-in-Raised
unfolding lines
overflow_add-after-in-Raised c = omega (arith, c.lines.ensures.count, c.if-lines-lt-MOST_LINES.true)

pub returns-in-Skipped : goal.returns-in-Skipped
unfolding with_line one_more
returns-in-Skipped c = simp (sym c.lines.ensures.count, lt-ltb c.lines.result 65536 c.if-lines-lt-MOST_LINES.true, c.in-Skipped.is)

pub returns-in-Quiet : goal.returns-in-Quiet
unfolding with_line one_more
returns-in-Quiet c = simp (sym c.lines.ensures.count, lt-ltb c.lines.result 65536 c.if-lines-lt-MOST_LINES.true, c.in-Quiet.is)

pub returns-in-Raised : goal.returns-in-Raised
unfolding with_line one_more
returns-in-Raised c = simp (sym c.lines.ensures.count, lt-ltb c.lines.result 65536 c.if-lines-lt-MOST_LINES.true, c.in-Raised.is)

pub returns-else-lines-lt-MOST_LINES : goal.returns-else-lines-lt-MOST_LINES
unfolding with_line
returns-else-lines-lt-MOST_LINES c = simp (sym c.lines.ensures.count, le-ltb c.lines.result 65536 c.if-lines-lt-MOST_LINES.false)
