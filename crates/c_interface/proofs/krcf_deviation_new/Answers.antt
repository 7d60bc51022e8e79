use mathlib.Core.Path.{◌∙◌, sym}
use Rattle.c_interface.proofs.Steps.{deviation_made_lem, deviation_refused}
use Rattle.c_interface.proofs.krcf_deviation_new.Goals as goal

pub returns-in-Ok : goal.returns-in-Ok
returns-in-Ok c = deviation_made_lem _ c.args.out.now _ _ (sym c.new.ensures ∙ c.in-Ok.is) c.put_deviation.ensures

pub returns-in-Err : goal.returns-in-Err
returns-in-Err c = deviation_refused _ c.args.out.now _ _ (sym c.new.ensures ∙ c.in-Err.is) c.number.ensures
