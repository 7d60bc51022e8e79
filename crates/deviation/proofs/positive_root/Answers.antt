use Rattle.deviation.specs.Statistics.{positive_root}
use Rattle.deviation.proofs.positive_root.Goals as goal

pub returns-then-x : goal.returns-then-x
unfolding positive_root
returns-then-x c = simp (c.if-x.true, c.sqrt.ensures)

pub returns-else-x : goal.returns-else-x
unfolding positive_root
returns-else-x c = simp c.if-x.false
