use Rattle.deviation.specs.Statistics.{new}
use Rattle.deviation.proofs.Deviation.new.Goals as goal

pub returns-then-discount : goal.returns-then-discount
unfolding new
returns-then-discount c = simp (c.if-discount.true, c.create.ensures)

pub returns : goal.returns
unfolding new
returns c = simp c.if-discount.false
