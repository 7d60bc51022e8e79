use Rattle.attributors.proofs.Sorting.{sorted_pick}
use Rattle.attributors.proofs.picked_by_sorting.Goals as goal

pub returns : goal.returns
returns c = sorted_pick
