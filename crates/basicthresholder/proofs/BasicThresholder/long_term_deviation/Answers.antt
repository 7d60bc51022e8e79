use Rattle.basicthresholder.specs.Grades.{long_term_deviation}
use Rattle.basicthresholder.proofs.BasicThresholder.long_term_deviation.Goals as goal

pub returns-then-shingle_size-differenced : goal.returns-then-shingle_size-differenced
unfolding long_term_deviation
returns-then-shingle_size-differenced c = simp (c.if-shingle_size-differenced.true, c.minf32.ensures, c.narrow.ensures, c.mean_or_zero.ensures, c.requires.fact_1)

pub returns : goal.returns
unfolding long_term_deviation
returns c = simp (c.if-shingle_size-differenced.false, c.smallest_deviation.ensures)
