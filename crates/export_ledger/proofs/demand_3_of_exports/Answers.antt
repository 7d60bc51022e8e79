use Rattle.export_ledger.proofs.Demand3 as Demand3
use Rattle.export_ledger.proofs.demand_3_of_exports.Goals as goal

pub returns : goal.returns
returns c = Demand3.demand_3
