use Rattle.demand3_over_c.proofs.OverC.{demand_3_over_c}
use Rattle.demand3_over_c.proofs.demand_3_over_c.Goals as goal

pub returns : goal.returns
returns c = demand_3_over_c
