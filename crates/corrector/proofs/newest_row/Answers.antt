use Rattle.std.proofs.Common.{length, sym, ◌∙◌}
use Rattle.corrector.proofs.Laws.{row_is, none_is, accepted, base_within}
use Rattle.corrector.proofs.newest_row.Goals as goal

pub overflow_sub-at : goal.overflow_sub-at
overflow_sub-at c =
    let a = c.args in
    base_within a.shingle_size a.base_dimension _ (accepted a.shingle_size a.base_dimension (length a.point.now) (sym c.point_fits.ensures ∙ c.if-point_fits.true))

pub returns-then-point_fits : goal.returns-then-point_fits
returns-then-point_fits c =
    let a = c.args in
    row_is a.point.now a.shingle_size a.base_dimension (sym c.point_fits.ensures ∙ c.if-point_fits.true)

pub returns : goal.returns
returns c =
    let a = c.args in
    none_is a.point.now a.shingle_size a.base_dimension (sym c.point_fits.ensures ∙ c.if-point_fits.false)
