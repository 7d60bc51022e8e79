use lib.IntN.{pos, ◌+ℤ◌}
use mir.Syntax.{w32}
use mir.ValLaws.{to_z-of_z}
use borrow.Author.Rules.{rules}
use Rattle.deviation.proofs.Counts.{plus_fits}
use Rattle.deviation.proofs.plus_one.Goals as goal

pub overflow_add-result : goal.overflow_add-result
overflow_add-result c = rw (to_z-of_z w32 c.args.count c.ranges.count) (plus_fits 1 (search rules) c.args.count c.requires)

pub returns : goal.returns
returns c = rw (to_z-of_z w32 c.args.count c.ranges.count) (to_z-of_z w32 (c.args.count +ℤ pos 1) (plus_fits 1 (search rules) c.args.count c.requires))
