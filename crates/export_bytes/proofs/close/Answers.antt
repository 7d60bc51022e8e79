use mathlib.Core.Path.{sym, ap}
use native.Mathlib.Omega.{arith}
use Rattle.score_rows.proofs.Bytes.{put_then}
use Rattle.export_rows.specs.declared.Course.{Course}
use Rattle.export_bytes.specs.Feeding.{run_of, closed, closing}
use Rattle.export_bytes.proofs.Parts.{text_length, total_length}
use Rattle.export_bytes.proofs.close.Goals as goal

pub total-written-requires : goal.total-written-requires
total-written-requires c = omega (arith, text_length c.args.run.course.row c.take-taken.result.line, c.write_line-end.ensures.place, c.write_line-end.auto.out, c.requires)

pub returns-clause-run : goal.returns-clause-run
unfolding closed
returns-clause-run c = rw (sym c.finish-last.ensures, sym c.take-taken.ensures) (ap (λ (k : Course). run_of c.finish-last.result.scan k) c.total.ensures)

pub returns-clause-printed : goal.returns-clause-printed
unfolding closing
returns-clause-printed c =
    rw (sym c.finish-last.ensures, sym c.take-taken.ensures)
    (put_then c.write_line-end.ensures c.total-written.ensures (omega (arith, text_length c.args.run.course.row c.take-taken.result.line, total_length c.take-taken.result.course, c.requires)))
