use borrow.Author.Tests.{eq-eqb, ne_eqb}
use Rattle.c_chain.proofs.Steps.{put_done, put_refused}
use Rattle.c_chain.proofs.put_f64.Goals as goal

pub returns-then-out-eq8 : goal.returns-then-out-eq8
returns-then-out-eq8 c = put_done 8 c.args.out.now _ _ (eq-eqb _ _ c.if-out-eq8.true) c.write_f64.ensures

pub returns : goal.returns
returns c = put_refused 8 c.args.out.now _ (ne_eqb _ _ c.if-out-eq8.false)
