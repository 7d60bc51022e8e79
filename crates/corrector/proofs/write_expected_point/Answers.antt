use Rattle.std.proofs.Common.{sym, ◌∙◌}
use Rattle.corrector.proofs.Laws.{expecting}
use Rattle.corrector.proofs.Rows.{written_row}
use Rattle.corrector.proofs.write_expected_point.Goals as goal

pub returns-then-expected_fits : goal.returns-then-expected_fits
returns-then-expected_fits c =
    let a = c.args in
    let f = expecting _ _ _ _ _ _ _ (sym c.expected_fits.ensures ∙ c.if-expected_fits.true) in
    simp (sym c.expected_fits.ensures ∙ c.if-expected_fits.true, c.write_row.ensures, c.expected_row-row.ensures) (written_row a.high.now a.low.now a.position a.base_dimension a.point.now a.median.now a.out.now f)
