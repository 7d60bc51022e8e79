use Rattle.std.proofs.Common.{◌≡◌, length, sym, ◌∙◌, arith, rules, length-take, length-drop}
use Rattle.attributors.proofs.Laws.{row_of}
use Rattle.corrector.proofs.write_row.Goals as goal

pub slice_bounds-copy-end-then-row_fits : goal.slice_bounds-copy-end-then-row_fits
slice_bounds-copy-end-then-row_fits c =
    let r = row_of _ _ _ _ (sym c.row_fits.ensures ∙ c.if-row_fits.true) in
    let long : length c.args.row ≡ 16 = search rules in
    simp length-take (omega arith)

pub copy-requires-then-row_fits : goal.copy-requires-then-row_fits
copy-requires-then-row_fits c =
    let r = row_of _ _ _ _ (sym c.row_fits.ensures ∙ c.if-row_fits.true) in
    let long : length c.args.row ≡ 16 = search rules in
    simp (length-take, length-drop) (omega arith)
