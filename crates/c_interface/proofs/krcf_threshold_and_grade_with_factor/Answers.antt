use mathlib.Core.Path.{◌∙◌, sym, ap}
use Rattle.layout.specs.States.{encode_graded}
use Rattle.c_interface.proofs.Steps.{thresholder_read_lem, thresholder_unread, graded_known, graded_refused}
use Rattle.c_interface.proofs.krcf_threshold_and_grade_with_factor.Goals as goal

pub returns-in-Ok-read_thresholder : goal.returns-in-Ok-read_thresholder
returns-in-Ok-read_thresholder c = graded_known _ _ _ c.args.out.now _ _ (sym c.try_from.ensures ∙ c.in-Ok.is)
    (thresholder_read_lem _ _ c.read_thresholder.ensures c.args.out.now _ c.in-Ok-read_thresholder.is _ _ _ _ (ap encode_graded c.threshold_and_grade_with_factor.ensures) c.put_graded.ensures)

pub returns-in-Err-read_thresholder : goal.returns-in-Err-read_thresholder
returns-in-Err-read_thresholder c = graded_known _ _ _ c.args.out.now _ _ (sym c.try_from.ensures ∙ c.in-Ok.is)
    (thresholder_unread _ _ c.read_thresholder.ensures c.args.out.now _ c.in-Err-read_thresholder.is _ c.number.ensures _ _)

pub returns-in-Err : goal.returns-in-Err
returns-in-Err c = graded_refused _ _ _ c.args.out.now _ _ (sym c.try_from.ensures ∙ c.in-Err.is) c.number-in-Err.ensures
