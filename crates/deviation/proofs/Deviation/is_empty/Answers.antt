use Rattle.deviation.specs.Statistics.{is_empty}
use mathlib.Core.Path.{refl}
use Rattle.deviation.proofs.Deviation.is_empty.Goals as goal

pub returns : goal.returns
unfolding is_empty
returns c = refl
