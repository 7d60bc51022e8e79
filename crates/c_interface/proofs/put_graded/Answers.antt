use borrow.Author.Tests.{eq-eqb, ne_eqb}
use Rattle.c_interface.proofs.Steps.{put_done, put_refused}
use Rattle.c_interface.proofs.put_graded.Goals as goal

pub returns-then-out-eq8 : goal.returns-then-out-eq8
returns-then-out-eq8 c = put_done _ c.args.out.now _ _ (eq-eqb _ _ c.if-out-eq8.true) c.write_graded.ensures

pub returns : goal.returns
returns c = put_refused _ c.args.out.now _ (ne_eqb _ _ c.if-out-eq8.false)
