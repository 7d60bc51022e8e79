use Rattle.std.proofs.Common.{length, sym, ◌∙◌, arith}
use Rattle.corrector.proofs.Laws.{expecting}
use Rattle.corrector.proofs.Kept.{asked_in}
use Rattle.corrector.proofs.Rows.{missed, row_expected, row_is_part}
use Rattle.corrector.proofs.expected_row.Goals as goal

pub predict-requires : goal.predict-requires
predict-requires c =
    let a = c.args in
    let f = expecting _ _ _ _ _ _ _ (sym c.expected_fits.ensures ∙ c.if-expected_fits.true) in
    let m = f.median_long in
    missed a.high.now a.low.now a.start a.base_dimension _ (c.asked_indices-missing.ensures ∙ asked_in a.high.now a.low.now a.start a.base_dimension _ _ _ f) (length a.median.now) f.few (let i = f.inside in omega arith)

pub returns-then-expected_fits : goal.returns-then-expected_fits
returns-then-expected_fits c =
    let a = c.args in
    let f = expecting _ _ _ _ _ _ _ (sym c.expected_fits.ensures ∙ c.if-expected_fits.true) in
    c.predict.ensures
    ∙ row_expected a.high.now a.low.now a.start a.base_dimension _ (c.asked_indices-missing.ensures ∙ asked_in a.high.now a.low.now a.start a.base_dimension _ _ _ f) a.point.now a.median.now _ f.inside c.copy_row-row.ensures
    ∙ sym (row_is_part a.high.now a.low.now a.start a.base_dimension a.point.now a.median.now f)
