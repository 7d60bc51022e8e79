use Rattle.c_interface.proofs.Steps.{thresholder_changed_lem, thresholder_unchanged}
use Rattle.c_interface.proofs.krcf_update.Goals as goal

pub returns-in-Ok : goal.returns-in-Ok
returns-in-Ok c = thresholder_changed_lem _ _ c.read_thresholder.ensures c.args.state.now _ c.in-Ok.is _ _ _ c.update.ensures c.store_thresholder.ensures

pub returns-in-Err : goal.returns-in-Err
returns-in-Err c = thresholder_unchanged _ _ c.read_thresholder.ensures c.args.state.now _ c.in-Err.is _ c.number.ensures _
