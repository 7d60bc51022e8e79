use mathlib.Core.Path.{sym, ◌∙◌}
use borrow.Author.Tests.{eq-eqb, ne_eqb}
use Rattle.c_calls.proofs.Steps.{missing_range, missing_length, missing_placed, missing_refused}
use Rattle.c_calls.proofs.krcf_likely_missing_indices.Goals as goal

pub returns-in-Ok : goal.returns-in-Ok
returns-in-Ok c = missing_placed c.args.shingle_size c.args.base_dimension c.args.gap c.args.high.now c.args.low.now c.args.out.now (sym c.sizes_ok.ensures ∙ c.if-sizes_ok.true) (eq-eqb _ _ c.if-out-eq8.true) _ c.likely_missing_indices.ensures _ _ c.in-Ok.is c.put_missing.ensures

pub returns-in-Err : goal.returns-in-Err
returns-in-Err c = missing_refused c.args.shingle_size c.args.base_dimension c.args.gap c.args.high.now c.args.low.now c.args.out.now (sym c.sizes_ok.ensures ∙ c.if-sizes_ok.true) (eq-eqb _ _ c.if-out-eq8.true) _ c.likely_missing_indices.ensures _ _ c.in-Err.is c.number.ensures

pub returns-then-sizes_ok : goal.returns-then-sizes_ok
returns-then-sizes_ok c = missing_length c.args.shingle_size c.args.base_dimension c.args.gap c.args.high.now c.args.low.now c.args.out.now (sym c.sizes_ok.ensures ∙ c.if-sizes_ok.true) (ne_eqb _ _ c.if-out-eq8.false)

pub returns : goal.returns
returns c = missing_range c.args.shingle_size c.args.base_dimension c.args.gap c.args.high.now c.args.low.now c.args.out.now (sym c.sizes_ok.ensures ∙ c.if-sizes_ok.false)
