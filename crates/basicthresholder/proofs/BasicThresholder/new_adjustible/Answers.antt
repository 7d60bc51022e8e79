use Rattle.basicthresholder.specs.Updates.{new_adjustible}
use Rattle.basicthresholder.proofs.BasicThresholder.new_adjustible.Goals as goal

pub returns-then-discount : goal.returns-then-discount
unfolding new_adjustible
returns-then-discount c = simp (c.if-discount.true, c.fresh.ensures)

pub returns : goal.returns
unfolding new_adjustible
returns c = simp c.if-discount.false
