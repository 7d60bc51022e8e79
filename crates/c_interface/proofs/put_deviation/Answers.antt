use borrow.Author.Tests.{eq-eqb, ne_eqb}
use Rattle.c_interface.proofs.Steps.{put_done, put_refused}
use Rattle.c_interface.proofs.put_deviation.Goals as goal

pub returns-then-out-eq-DEVIATION_LENGTH : goal.returns-then-out-eq-DEVIATION_LENGTH
returns-then-out-eq-DEVIATION_LENGTH c = put_done _ c.args.out.now _ _ (eq-eqb _ _ c.if-out-eq-DEVIATION_LENGTH.true) c.write_deviation.ensures

pub returns : goal.returns
returns c = put_refused _ c.args.out.now _ (ne_eqb _ _ c.if-out-eq-DEVIATION_LENGTH.false)
