use Rattle.basicthresholder.specs.Updates.{update}
use Rattle.basicthresholder.proofs.BasicThresholder.update.Goals as goal

pub returns : goal.returns
unfolding update
returns c = simp (c.update_both.ensures, c.minf32.ensures)
