use mathlib.Core.Path.{sym, ◌∙◌}
use Rattle.pool_drawers.proofs.Calls.{spare, open_room, open_done, open_range, open_unmade, open_refused}
use borrow.Author.Tests.{le-leb, lt-leb}
use Rattle.pool_drawers.proofs.krcf_pool_open.Goals as goal

pub take_in-requires : goal.take_in-requires
take_in-requires c = spare _ _ _ _ c.vacancy.ensures c.in-Ok.is

pub returns-then-auto_adjust-le1 : goal.returns-then-auto_adjust-le1
returns-then-auto_adjust-le1 c = open_done c.args.pool.now _ _ _ _ _ _ _ c.vacancy.ensures c.in-Ok.is _ (sym c.new.ensures ∙ c.in-Ok-new.is) _ (le-leb _ _ c.if-auto_adjust-le1.true) c.take_in.ensures c.put_state.ensures

pub returns-else-auto_adjust-le1 : goal.returns-else-auto_adjust-le1
returns-else-auto_adjust-le1 c = open_range c.args.pool.now c.args.pool.now _ _ _ _ _ _ c.vacancy.ensures c.in-Ok.is _ (sym c.new.ensures ∙ c.in-Ok-new.is) (lt-leb _ _ c.if-auto_adjust-le1.false)

pub returns-in-Err-new : goal.returns-in-Err-new
returns-in-Err-new c = open_unmade c.args.pool.now c.args.pool.now _ _ _ _ _ _ c.vacancy.ensures c.in-Ok.is _ _ (sym c.new.ensures ∙ c.in-Err-new.is) c.number.ensures

pub returns-in-Err : goal.returns-in-Err
returns-in-Err c = open_refused c.args.pool.now _ _ _ _ _ _ _ c.vacancy.ensures c.in-Err.is c.number-in-Err.ensures

pub put_state-requires-clause-long : goal.put_state-requires-clause-long
put_state-requires-clause-long c = (open_room _ _ _ _ _ c.vacancy.ensures c.in-Ok.is c.take_in.ensures).0

pub put_state-requires-clause-room : goal.put_state-requires-clause-room
put_state-requires-clause-room c = (open_room _ _ _ _ _ c.vacancy.ensures c.in-Ok.is c.take_in.ensures).1
