use Rattle.pool_drawers.proofs.Calls.{held, remove_done, remove_refused}
use Rattle.pool_drawers.proofs.krcf_pool_remove.Goals as goal

pub take_out-requires : goal.take_out-requires
take_out-requires c = held _ _ _ _ c.locate.ensures c.in-Ok.is

pub returns-in-Ok : goal.returns-in-Ok
returns-in-Ok c = remove_done c.args.pool.now _ _ _ _ c.locate.ensures c.in-Ok.is c.take_out.ensures

pub returns-in-Err : goal.returns-in-Err
returns-in-Err c = remove_refused c.args.pool.now _ _ _ _ c.locate.ensures c.in-Err.is c.number.ensures
