use Rattle.c_interface.proofs.Steps.{deviation_changed_lem, deviation_unchanged}
use Rattle.c_interface.proofs.krcf_deviation_update.Goals as goal

pub returns-in-Ok : goal.returns-in-Ok
returns-in-Ok c = deviation_changed_lem _ _ c.read_deviation.ensures c.args.state.now _ c.in-Ok.is _ _ _ c.update.ensures c.store_deviation.ensures

pub returns-in-Err : goal.returns-in-Err
returns-in-Err c = deviation_unchanged _ _ c.read_deviation.ensures c.args.state.now _ c.in-Err.is _ c.number.ensures _
