use borrow.Author.Tests.{eq-eqb, ne_eqb}
use Rattle.c_interface.proofs.Steps.{put_done, put_refused}
use Rattle.c_interface.proofs.put_thresholder.Goals as goal

pub returns-then-out-eq-THRESHOLDER_LENGTH : goal.returns-then-out-eq-THRESHOLDER_LENGTH
returns-then-out-eq-THRESHOLDER_LENGTH c = put_done _ c.args.out.now _ _ (eq-eqb _ _ c.if-out-eq-THRESHOLDER_LENGTH.true) c.write_thresholder.ensures

pub returns : goal.returns
returns c = put_refused _ c.args.out.now _ (ne_eqb _ _ c.if-out-eq-THRESHOLDER_LENGTH.false)
