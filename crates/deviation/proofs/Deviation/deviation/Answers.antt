use mathlib.Core.Path.{◌∙◌}
use Rattle.deviation.proofs.Measuring.{deviation_empty, deviation_number}
use Rattle.deviation.proofs.Deviation.deviation.Goals as goal

pub returns-in_err-temp : goal.returns-in_err-temp
returns-in_err-temp c = c.from_residual.ensures ∙ deviation_empty c.args.self _ c.mean.ensures c.in_err-temp.was

pub returns : goal.returns
returns c = deviation_number c.args.self _ _ _ c.mean.ensures c.in_ok-temp.was c.positive_root.ensures
