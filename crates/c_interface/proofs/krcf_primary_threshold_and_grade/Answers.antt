use mathlib.Core.Path.{ap}
use Rattle.layout.specs.States.{encode_graded}
use Rattle.c_interface.proofs.Steps.{thresholder_read_lem, thresholder_unread}
use Rattle.c_interface.proofs.krcf_primary_threshold_and_grade.Goals as goal

pub returns-in-Ok : goal.returns-in-Ok
returns-in-Ok c = thresholder_read_lem _ _ c.read_thresholder.ensures c.args.out.now _ c.in-Ok.is _ _ _ _ (ap encode_graded c.primary_threshold_and_grade.ensures) c.put_graded.ensures

pub returns-in-Err : goal.returns-in-Err
returns-in-Err c = thresholder_unread _ _ c.read_thresholder.ensures c.args.out.now _ c.in-Err.is _ c.number.ensures _ _
