use Rattle.deviation.specs.Statistics.{factor}
use mir.Syntax.{w32}
use mir.ValLaws.{to_z-of_z}
use Rattle.deviation.proofs.factor.Goals as goal

pub returns-then-discount : goal.returns-then-discount
unfolding factor
returns-then-discount c = simp c.if-discount.true

pub returns-then-a-b : goal.returns-then-a-b
unfolding factor
returns-then-a-b c = simp (c.if-discount.false, rw (c.plus_two.ensures, to_z-of_z w32 c.args.count c.ranges.count) at c.if-a-b.true)

pub returns-else-a-b : goal.returns-else-a-b
unfolding factor
returns-else-a-b c = simp (c.if-discount.false, rw (c.plus_two.ensures, to_z-of_z w32 c.args.count c.ranges.count) at c.if-a-b.false, c.plus_two.ensures, to_z-of_z w32 c.args.count c.ranges.count)
