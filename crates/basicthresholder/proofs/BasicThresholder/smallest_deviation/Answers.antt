use Rattle.basicthresholder.specs.Grades.{smallest_deviation}
use Rattle.basicthresholder.proofs.BasicThresholder.smallest_deviation.Goals as goal

pub returns : goal.returns
unfolding smallest_deviation
returns c = simp (c.mixed.ensures, c.smaller-2.ensures, c.smaller.ensures, c.deviation_or_zero-t.ensures, c.deviation_or_zero-second.ensures, c.requires)
