use Rattle.basicthresholder.specs.Updates.{counted_over}
use Rattle.basicthresholder.proofs.counted_over.Goals as goal

pub returns : goal.returns
unfolding counted_over
returns c = simp (c.counted_gap.ensures, c.narrow.ensures, c.mean_or_zero.ensures)
