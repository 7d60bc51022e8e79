use mathlib.Core.Path.{sym, ◌∙◌}
use borrow.Author.Tests.{eq-eqb, ne_eqb, le-leb, lt-leb}
use Rattle.c_chain.proofs.Steps.{made_done, made_length, made_range, made_refused}
use Rattle.c_chain.proofs.krcf_new.Goals as goal

pub returns-then-out-eq-STATE_LENGTH : goal.returns-then-out-eq-STATE_LENGTH
returns-then-out-eq-STATE_LENGTH c = made_done _ c.args.auto_adjust c.args.out.now _ (sym c.new.ensures ∙ c.in-Ok.is) (le-leb _ _ c.if-auto_adjust-le1.true) _ _ (eq-eqb _ _ c.if-out-eq-STATE_LENGTH.true) c.clear.ensures c.write_state.ensures

pub returns-then-auto_adjust-le1 : goal.returns-then-auto_adjust-le1
returns-then-auto_adjust-le1 c = made_length _ c.args.auto_adjust c.args.out.now _ (sym c.new.ensures ∙ c.in-Ok.is) (le-leb _ _ c.if-auto_adjust-le1.true) (ne_eqb _ _ c.if-out-eq-STATE_LENGTH.false)

pub returns-else-auto_adjust-le1 : goal.returns-else-auto_adjust-le1
returns-else-auto_adjust-le1 c = made_range _ c.args.auto_adjust c.args.out.now _ (sym c.new.ensures ∙ c.in-Ok.is) (lt-leb _ _ c.if-auto_adjust-le1.false)

pub returns-in-Err : goal.returns-in-Err
returns-in-Err c = made_refused _ c.args.auto_adjust c.args.out.now _ _ (sym c.new.ensures ∙ c.in-Err.is) c.number.ensures
