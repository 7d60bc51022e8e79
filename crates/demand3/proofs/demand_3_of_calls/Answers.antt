use Rattle.demand3.proofs.Demand3.{demand_3_of_calls}
use Rattle.demand3.proofs.demand_3_of_calls.Goals as goal

pub returns : goal.returns
returns c = demand_3_of_calls
