use mathlib.Core.Path.{◌∙◌}
use mir.Syntax.{w32}
use mir.ValLaws.{to_z-of_z}
use Rattle.deviation.proofs.Laws.{picked, passed}
use Rattle.deviation.specs.Statistics.{one_more}
use Rattle.deviation.proofs.one_more.Goals as goal

pub returns-then-countable : goal.returns-then-countable
unfolding one_more
returns-then-countable c = to_z-of_z w32 c.plus_one.result (record { sfits = c.plus_one.type_inv }) ∙ (rw (to_z-of_z w32 c.args.count c.ranges.count) at c.plus_one.ensures) ∙ picked _ _ (rw (to_z-of_z w32 c.args.count c.ranges.count) at c.countable.ensures) c.if-countable.true

pub returns : goal.returns
unfolding one_more
returns c = to_z-of_z w32 c.args.count c.ranges.count ∙ passed _ _ (rw (to_z-of_z w32 c.args.count c.ranges.count) at c.countable.ensures) c.if-countable.false
