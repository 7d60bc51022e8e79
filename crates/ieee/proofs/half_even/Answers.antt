use Rattle.ieee.proofs.Half.{code_half}
use Rattle.ieee.proofs.half_even.Goals as goal

-- `ieee::half_even` meets its contract: `proofs/Half.antt` has the sum. Assumes nothing.

pub returns : goal.returns
returns c = code_half c.args.q c.args.d c.requires.d_nonzero c.requires.d_bound
