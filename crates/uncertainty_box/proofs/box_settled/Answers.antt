use Rattle.uncertainty_box.proofs.Settled.{box_settled, box_decided}
use Rattle.uncertainty_box.proofs.box_settled.Goals as goal

pub returns : goal.returns
returns c = (box_settled, box_decided)
