use Rattle.std.proofs.Common.{eq-eqb, ne_eqb}
use Rattle.divector.proofs.Blocks.{first_far, first_near}
use Rattle.divector.specs.DiVector.{max_gap_contribution, bad_blocks}
use Rattle.divector.proofs.max_gap_contribution.Goals as goal

pub returns-then-gap-blocks : goal.returns-then-gap-blocks
unfolding max_gap_contribution bad_blocks
returns-then-gap-blocks c = simp (eq-eqb _ _ c.if-n-low.false, ne_eqb _ _ c.if-gap-eq0.false, ne_eqb _ _ c.if-base-eq0.false, ne_eqb _ _ c.if-n-eq0.false, eq-eqb _ _ c.if-n-base-ne0.false, first_far _ _ c.if-n-base-ne0.false _ c.if-base-eq0.false c.if-gap-blocks.true, c.best_from.ensures)

pub returns : goal.returns
unfolding max_gap_contribution bad_blocks
returns c = simp (eq-eqb _ _ c.if-n-low.false, ne_eqb _ _ c.if-gap-eq0.false, ne_eqb _ _ c.if-base-eq0.false, ne_eqb _ _ c.if-n-eq0.false, eq-eqb _ _ c.if-n-base-ne0.false, first_near _ _ c.if-n-base-ne0.false _ c.if-gap-blocks.false, c.best_from-2.ensures)
