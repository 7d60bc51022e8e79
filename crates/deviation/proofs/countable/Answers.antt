use mir.Syntax.{w32}
use mir.ValLaws.{to_z-of_z}
use Rattle.deviation.proofs.Counts.{below, above}
use Rattle.deviation.proofs.countable.Goals as goal

pub returns-then-count-lt0 : goal.returns-then-count-lt0
returns-then-count-lt0 c = below c.args.count (rw (to_z-of_z w32 c.args.count c.ranges.count) at c.if-count-lt0.true)

pub returns : goal.returns
returns c = rw (to_z-of_z w32 c.args.count c.ranges.count) (above c.args.count (rw (to_z-of_z w32 c.args.count c.ranges.count) at c.if-count-lt0.false))
