use Rattle.std.proofs.Common.{le-ltb}
use Rattle.corrector.specs.Corrector.{apply_basic_corrector}
use Rattle.corrector.proofs.Laws.{zero_is, nonzero_is, start_is}
use Rattle.corrector.proofs.correct.Goals as goal

pub returns-then-relative_index-eq0 : goal.returns-then-relative_index-eq0
unfolding apply_basic_corrector
returns-then-relative_index-eq0 c =
    let a = c.args in
    let p = c.requires in
    simp (c.amend.ensures, le-ltb _ _ c.if-gap-shingle_size.true, c.if-has_anomaly.true, zero_is a.relative_index c.ranges.relative_index c.if-relative_index-eq0.true, start_is a.point.now a.expected.now a.gap a.shingle_size a.base_dimension (p.expected_long c.if-has_anomaly.true) p.sizes.long c.if-gap-shingle_size.true, c.shift_in.ensures)

pub returns-then-gap-shingle_size : goal.returns-then-gap-shingle_size
unfolding apply_basic_corrector
returns-then-gap-shingle_size c =
    let a = c.args in
    let p = c.requires in
    simp (le-ltb _ _ c.if-gap-shingle_size.true, c.if-has_anomaly.true, nonzero_is a.relative_index c.if-relative_index-eq0.false, start_is a.point.now a.expected.now a.gap a.shingle_size a.base_dimension (p.expected_long c.if-has_anomaly.true) p.sizes.long c.if-gap-shingle_size.true, c.shift_in.ensures)
