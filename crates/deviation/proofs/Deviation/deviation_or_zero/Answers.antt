use mathlib.Core.Path.{ap, ◌∙◌}
use Rattle.deviation.specs.Statistics.{or_zero}
use Rattle.deviation.proofs.Measuring.{or_zero_deviation}
use Rattle.deviation.proofs.Deviation.deviation_or_zero.Goals as goal

pub returns : goal.returns
returns c = c.or_zero.ensures ∙ ap or_zero c.deviation.ensures ∙ or_zero_deviation c.args.self
