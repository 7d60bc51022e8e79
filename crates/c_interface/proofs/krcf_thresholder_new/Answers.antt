use mathlib.Core.Path.{◌∙◌, sym}
use borrow.Author.Tests.{le-leb, lt-leb}
use Rattle.c_interface.proofs.Steps.{thresholder_made_lem, thresholder_range, thresholder_refused}
use Rattle.c_interface.proofs.krcf_thresholder_new.Goals as goal

pub returns-then-adjust-le1 : goal.returns-then-adjust-le1
returns-then-adjust-le1 c = thresholder_made_lem _ c.args.adjust c.args.out.now _ (sym c.new_adjustible.ensures ∙ c.in-Ok.is) _ (le-leb _ _ c.if-adjust-le1.true) c.put_thresholder.ensures

pub returns-else-adjust-le1 : goal.returns-else-adjust-le1
returns-else-adjust-le1 c = thresholder_range _ c.args.adjust c.args.out.now _ (sym c.new_adjustible.ensures ∙ c.in-Ok.is) (lt-leb _ _ c.if-adjust-le1.false)

pub returns-in-Err : goal.returns-in-Err
returns-in-Err c = thresholder_refused _ c.args.adjust c.args.out.now _ _ (sym c.new_adjustible.ensures ∙ c.in-Err.is) c.number.ensures
