use Rattle.ieee.proofs.Rooting.{reach_is}
use Rattle.ieee.proofs.reach.Goals as goal

-- `ieee::reach` meets its contract: `proofs/Rooting.antt` has the square by halves. Assumes nothing.

pub returns : goal.returns
returns c = reach_is c.args.c c.requires
