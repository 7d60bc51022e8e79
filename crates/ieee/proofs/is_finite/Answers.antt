use lib.Ieee.{binary32}
use Rattle.ieee.proofs.Finite.{finite_is}
use Rattle.ieee.proofs.is_finite.Goals as goal

pub returns : goal.returns
returns c = finite_is binary32 c.args.x
