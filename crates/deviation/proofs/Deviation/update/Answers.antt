use Rattle.std.specs.Prelude.{Ok}
use mathlib.Core.Path.{◌∙◌, ap}
use mir.Syntax.{w32}
use mir.ValLaws.{to_z-of_z}
use Rattle.deviation.proofs.Laws.{picked, passed}
use Rattle.deviation.specs.Statistics.{countable, update}
use Rattle.deviation.specs.declared.Deviation.{Deviation}
use Rattle.types.specs.declared.Updated.{Updated}
use borrow.Author.Rules.{rules}
use Rattle.deviation.proofs.Deviation.update.Goals as goal

abbrev done : Deviation → Updated Deviation
done d = record { answer = Ok tt; state = d }

pub returns-then-countable : goal.returns-then-countable
unfolding update
returns-then-countable c = ap done c.next.ensures ∙ picked _ _ (c.countable.ensures ∙ ap countable (to_z-of_z w32 c.args.self.count (search rules))) c.if-countable.true

pub returns : goal.returns
unfolding update
returns c = passed _ _ (c.countable.ensures ∙ ap countable (to_z-of_z w32 c.args.self.count (search rules))) c.if-countable.false
