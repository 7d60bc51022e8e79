use mathlib.Core.Path.{sym, ap, ◌∙◌}
use borrow.Author.Tests.{ltb-true}
use Rattle.watched_rows.specs.Deciding.{goes_on}
use Rattle.export_rows.specs.Taking.{sound}
use Rattle.export_rows.proofs.sound.Goals as goal

pub with_row-requires : goal.with_row-requires
unfolding goes_on
with_row-requires c = ltb-true _ _ (ap goes_on (sym c.lines.ensures.count) ∙ sym c.goes_on.ensures ∙ c.if-goes_on.true)

pub returns-then-goes_on : goal.returns-then-goes_on
unfolding sound
returns-then-goes_on c = simp (sym c.is_watched.ensures ∙ c.if-is_watched.true, sym c.lines.ensures.count, sym c.goes_on.ensures ∙ c.if-goes_on.true, sym c.kind_of-kind.ensures, sym c.with_row.ensures, c.passed.ensures)

pub returns-then-is_watched : goal.returns-then-is_watched
unfolding sound
returns-then-is_watched c = simp (sym c.is_watched.ensures ∙ c.if-is_watched.true, sym c.lines.ensures.count, sym c.goes_on.ensures ∙ c.if-goes_on.false, c.ended.ensures)

pub returns : goal.returns
unfolding sound
returns c = simp (sym c.is_watched.ensures ∙ c.if-is_watched.false, c.passed-2.ensures)
