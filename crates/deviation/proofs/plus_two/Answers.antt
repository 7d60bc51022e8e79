use mathlib.Core.Path.{ap}
use lib.IntN.{pos, ◌+ℤ◌}
use lib.Ieee.{of_int, binary64}
use mir.Syntax.{w32}
use mir.ValLaws.{to_z-of_z}
use Rattle.deviation.proofs.Counts.{plus_fits}
use borrow.Author.Rules.{rules}
use Rattle.deviation.proofs.plus_two.Goals as goal

pub overflow_add-result : goal.overflow_add-result
overflow_add-result c = rw (to_z-of_z w32 c.args.count c.ranges.count) (plus_fits 2 (search rules) c.args.count c.requires)

pub returns : goal.returns
returns c = rw (to_z-of_z w32 c.args.count c.ranges.count) (ap (of_int binary64) (to_z-of_z w32 (c.args.count +ℤ pos 2) (plus_fits 2 (search rules) c.args.count c.requires)))
