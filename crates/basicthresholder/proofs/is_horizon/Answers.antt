use Rattle.std.proofs.Common.{refl}
use Rattle.basicthresholder.specs.Updates.{is_horizon}
use Rattle.basicthresholder.proofs.is_horizon.Goals as goal

pub returns : goal.returns
unfolding is_horizon
returns c = refl
