use Rattle.deviation.specs.Statistics.{reset}
use Rattle.deviation.proofs.Deviation.reset.Goals as goal

pub returns : goal.returns
unfolding reset
returns c = c.create.ensures
