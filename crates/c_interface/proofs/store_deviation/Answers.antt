use Rattle.c_interface.proofs.Steps.{stored_done, stored_refused}
use Rattle.c_interface.proofs.store_deviation.Goals as goal

pub returns-in-Ok : goal.returns-in-Ok
returns-in-Ok c = stored_done _ c.args.state.now _ _ _ c.in-Ok.is c.put_deviation.ensures

pub returns-in-Err : goal.returns-in-Err
returns-in-Err c = stored_refused _ c.args.state.now _ _ _ _ c.in-Err.is c.number.ensures
