use Rattle.basicthresholder.specs.Updates.{counted_gap}
use Rattle.basicthresholder.proofs.counted_gap.Goals as goal

pub returns-then-gap : goal.returns-then-gap
unfolding counted_gap
returns-then-gap c = simp (c.if-gap.true, c.counted.ensures, c.f32_to_f64_with_nan.ensures)

pub returns : goal.returns
unfolding counted_gap
returns c = simp c.if-gap.false
