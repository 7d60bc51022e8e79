use Rattle.ieee.proofs.Flooring.{floor_mask, floor_signed}
use Rattle.ieee.proofs.floor_pattern.Goals as goal

-- `ieee::floor_pattern` meets its contract. Assumes nothing.

pub floor_magnitude-requires-clause-a_bound : goal.floor_magnitude-requires-clause-a_bound
floor_magnitude-requires-clause-a_bound c = floor_mask c.args.b c.requires

pub returns : goal.returns
returns c = floor_signed c.args.b c.floor_magnitude.result c.ranges.b.fits c.floor_magnitude.ensures.floored
