use mathlib.Core.Path.{ap, ◌∙◌}
use borrow.Author.Tests.{ne_eqb}
use Rattle.types.specs.Refusals.{answered}
use Rattle.c_judging.proofs.Newest.{row_within, newest_done, newest_length, newest_refused}
use Rattle.c_judging.proofs.krcf_newest_row.Goals as goal

pub overflow_sub-point : goal.overflow_sub-point
overflow_sub-point c = row_within c.args.point.now c.args.shingle_size c.args.base_dimension _ c.newest_row-row.ensures

pub returns-then-out-eq8 : goal.returns-then-out-eq8
returns-then-out-eq8 c =
    let a = c.args in
    newest_done a.point.now a.shingle_size a.base_dimension _ (c.answered-number.ensures ∙ ap answered c.newest_row_answer.ensures) a.out.now c.if-number-eq0.true _ c.newest_row-row.ensures c.if-out-eq8.true _ c.write_u64.ensures

pub returns-then-number-eq0 : goal.returns-then-number-eq0
returns-then-number-eq0 c =
    let a = c.args in
    newest_length a.point.now a.shingle_size a.base_dimension _ (c.answered-number.ensures ∙ ap answered c.newest_row_answer.ensures) a.out.now c.if-number-eq0.true (ne_eqb _ _ c.if-out-eq8.false)

pub returns : goal.returns
returns c =
    let a = c.args in
    newest_refused a.point.now a.shingle_size a.base_dimension _ (c.answered-number.ensures ∙ ap answered c.newest_row_answer.ensures) a.out.now (ne_eqb _ _ c.if-number-eq0.false)
