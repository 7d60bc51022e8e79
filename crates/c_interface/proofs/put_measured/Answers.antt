use borrow.Author.Tests.{eq-eqb, ne_eqb}
use Rattle.c_interface.proofs.Steps.{put_over, put_refused}
use Rattle.c_interface.proofs.put_measured.Goals as goal

pub returns-then-out-eq9 : goal.returns-then-out-eq9
returns-then-out-eq9 c = put_over _ c.args.out.now _ _ (eq-eqb _ _ c.if-out-eq9.true) c.write_measured.ensures

pub returns : goal.returns
returns c = put_refused _ c.args.out.now _ (ne_eqb _ _ c.if-out-eq9.false)
