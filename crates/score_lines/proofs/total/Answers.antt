use mathlib.Core.List.{[]}
use Rattle.score_rows.proofs.Bytes.{put_none, with_room}
use Rattle.score_lines.specs.Feeding.{total_run, total_said}
use Rattle.score_lines.proofs.total.Goals as goal

pub returns-then-run-clause-run : goal.returns-then-run-clause-run
unfolding total_run
returns-then-run-clause-run c = simp c.if-run.true

pub returns-then-run-clause-printed : goal.returns-then-run-clause-printed
unfolding total_said
returns-then-run-clause-printed c = simp c.if-run.true (put_none c.args.out.now c.args.at [])

pub returns-clause-run : goal.returns-clause-run
unfolding total_run
returns-clause-run c = simp c.if-run.false c.ended.ensures

pub returns-clause-printed : goal.returns-clause-printed
unfolding total_said
returns-clause-printed c = simp c.if-run.false (with_room c.write_counts-end.ensures c.requires)
