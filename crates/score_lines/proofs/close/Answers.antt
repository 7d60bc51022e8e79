use mathlib.Core.List.{[]}
use mathlib.Core.Path.{sym}
use native.Mathlib.Omega.{arith}
use borrow.Author.Tests.{eq-eqb, ne_eqb}
use Rattle.score_lines.proofs.Parts.{line_said_length, total_length}
use Rattle.score_rows.proofs.Bytes.{put_none, put_then}
use Rattle.score_lines.specs.Feeding.{closed, closing}
use Rattle.score_lines.proofs.close.Goals as goal

pub total-requires-2 : goal.total-requires-2
total-requires-2 c = omega (arith, line_said_length c.args.run, c.end_line-last.ensures.printed.place, c.end_line-last.auto.out)

pub returns-then-run-clause-run : goal.returns-then-run-clause-run
unfolding closed
returns-then-run-clause-run c = simp c.if-run.true

pub returns-then-run-clause-printed : goal.returns-then-run-clause-printed
unfolding closing
returns-then-run-clause-printed c = simp c.if-run.true (put_none c.args.out.now 0 [])

pub returns-then-run-eq1-clause-run : goal.returns-then-run-eq1-clause-run
unfolding closed
returns-then-run-eq1-clause-run c = simp (c.if-run.false, eq-eqb c.args.run.part 1 c.if-run-eq1.true) c.total.ensures.run

pub returns-then-run-eq1-clause-printed : goal.returns-then-run-eq1-clause-printed
unfolding closing
returns-then-run-eq1-clause-printed c = simp (c.if-run.false, eq-eqb c.args.run.part 1 c.if-run-eq1.true) c.total.ensures.printed

pub returns-clause-run : goal.returns-clause-run
unfolding closed
returns-clause-run c =
    simp (c.if-run.false, ne_eqb c.args.run.part 1 c.if-run-eq1.false, sym c.end_line-last.ensures.run) c.total-2.ensures.run

pub returns-clause-printed : goal.returns-clause-printed
unfolding closing
returns-clause-printed c =
    simp (c.if-run.false, ne_eqb c.args.run.part 1 c.if-run-eq1.false, sym c.end_line-last.ensures.run)
    (put_then c.end_line-last.ensures.printed c.total-2.ensures.printed (omega (arith, line_said_length c.args.run, total_length c.end_line-last.result.run, c.requires)))
