use borrow.Author.Tests.{eq-eqb, ne_eqb}
use Rattle.c_chain.proofs.Steps.{block_put, block_refused, block_unput}
use Rattle.c_chain.proofs.put_block.Goals as goal

pub returns-then-out-eq8 : goal.returns-then-out-eq8
returns-then-out-eq8 c = block_refused _ c.args.out.now _ c.in-Err.is _ (eq-eqb _ _ c.if-out-eq8.true) c.number.ensures

pub returns-in-Ok : goal.returns-in-Ok
returns-in-Ok c = block_put _ c.args.out.now _ _ c.in-Ok.is c.put_usize.ensures

pub returns-else-out-eq8 : goal.returns-else-out-eq8
returns-else-out-eq8 c = block_unput _ c.args.out.now _ c.in-Err.is (ne_eqb _ _ c.if-out-eq8.false)
