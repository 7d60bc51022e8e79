use Rattle.ieee.proofs.Nans.{equals_itself}
use Rattle.ieee.proofs.leading.Goals as goal

-- `ieee::leading` meets its contract. Assumes nothing.

pub float_to_bits-result : goal.float_to_bits-result
float_to_bits-result c = equals_itself c.args.t c.if-t.false
