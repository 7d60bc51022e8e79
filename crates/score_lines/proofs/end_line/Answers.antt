use Prim.Native.Nat.{ℕ}
use mathlib.Core.Bool.{false}
use mathlib.Core.Path.{sym, ap, ap₂, ◌∙◌}
use Rattle.basicthresholder.specs.declared.BasicThresholder.{BasicThresholder}
use Rattle.score_kinds.specs.declared.Counts.{Counts}
use Rattle.score_kinds.specs.Counting.{one_more}
use Rattle.score_rows.proofs.Bytes.{with_room}
use Rattle.score_rows.proofs.Sheet.{still_few}
use Rattle.score_lines.proofs.Reading.{few}
use Rattle.score_lines.specs.Feeding.{run_of, line_of, with_score, line_ended, line_said, ended_by, said_by}
use Rattle.score_lines.proofs.end_line.Goals as goal

pub returns-in-Some-clause-run : goal.returns-in-Some-clause-run
unfolding line_ended line_said ended_by said_by with_score
returns-in-Some-clause-run c = let q = ap (λ (n : ℕ). line_of n c.args.run.part) (sym c.lines-before.ensures.count) ∙ sym c.line_of.ensures ∙ c.in-Some.is in
    let more = c.with_line.ensures ∙ still_few _ _ (few _ c.args.run.part _ q) ∙ ap (one_more c.args.run.counts) c.kind_of-kind.ensures in rw q (ap₂ (λ (s : BasicThresholder) (k : Counts). run_of s k 1 false) c.counted-thresholder.ensures more)

pub returns-in-Some-clause-printed : goal.returns-in-Some-clause-printed
unfolding line_ended line_said ended_by said_by with_score
returns-in-Some-clause-printed c = let q = ap (λ (n : ℕ). line_of n c.args.run.part) (sym c.lines-before.ensures.count) ∙ sym c.line_of.ensures ∙ c.in-Some.is in
    let more = c.with_line.ensures ∙ still_few _ _ (few _ c.args.run.part _ q) ∙ ap (one_more c.args.run.counts) c.kind_of-kind.ensures in rw (q, sym c.kind_of-kind.ensures, sym c.lines-before.ensures.count) (with_room c.write_row-end.ensures c.requires)

pub returns-in-None-clause-run : goal.returns-in-None-clause-run
unfolding line_ended line_said ended_by said_by
returns-in-None-clause-run c = let q = ap (λ (n : ℕ). line_of n c.args.run.part) (sym c.lines-before.ensures.count) ∙ sym c.line_of.ensures ∙ c.in-None.is in
    rw q c.ended.ensures

pub returns-in-None-clause-printed : goal.returns-in-None-clause-printed
unfolding line_ended line_said ended_by said_by
returns-in-None-clause-printed c = let q = ap (λ (n : ℕ). line_of n c.args.run.part) (sym c.lines-before.ensures.count) ∙ sym c.line_of.ensures ∙ c.in-None.is in
    rw (q, sym c.lines-before.ensures.count) (with_room c.write_bad_line-end.ensures c.requires)
