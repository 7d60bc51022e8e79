use Rattle.std.specs.Prelude.{Option, Float}
use mathlib.Core.Path.{ap}
use Rattle.c_interface.specs.Calls.{measured_over}
use Rattle.c_interface.proofs.Steps.{deviation_read_lem, deviation_unread}
use Rattle.c_interface.proofs.krcf_deviation_deviation.Goals as goal

pub returns-in-Ok : goal.returns-in-Ok
returns-in-Ok c = deviation_read_lem _ _ c.read_deviation.ensures c.args.out.now _ c.in-Ok.is _ _ _ _ (ap (λ (m : Option Float). measured_over m c.args.out.now) c.deviation.ensures) c.put_measured.ensures

pub returns-in-Err : goal.returns-in-Err
returns-in-Err c = deviation_unread _ _ c.read_deviation.ensures c.args.out.now _ c.in-Err.is _ c.number.ensures _ _
