use mathlib.Core.Path.{ap}
use Rattle.layout.specs.Numbers.{f32_bytes}
use Rattle.c_interface.proofs.Steps.{thresholder_read_lem, thresholder_unread}
use Rattle.c_interface.proofs.krcf_primary_grade.Goals as goal

pub returns-in-Ok : goal.returns-in-Ok
returns-in-Ok c = thresholder_read_lem _ _ c.read_thresholder.ensures c.args.out.now _ c.in-Ok.is _ _ _ _ (ap f32_bytes c.primary_grade.ensures) c.put_f32.ensures

pub returns-in-Err : goal.returns-in-Err
returns-in-Err c = thresholder_unread _ _ c.read_thresholder.ensures c.args.out.now _ c.in-Err.is _ c.number.ensures _ _
