use Rattle.uncertainty_box.proofs.Settled.{pass_settled, pass_decided}
use Rattle.uncertainty_box.proofs.pass_settled.Goals as goal

pub returns : goal.returns
returns c = (pass_settled, pass_decided)
