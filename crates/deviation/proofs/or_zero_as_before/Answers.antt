use Rattle.deviation.proofs.Measuring.{or_zero_as_before}
use Rattle.deviation.proofs.or_zero_as_before.Goals as goal

pub returns : goal.returns
returns c = or_zero_as_before
