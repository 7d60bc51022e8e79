use Rattle.ieee.proofs.CorrectRounding.{meaning}
use Rattle.ieee.proofs.correctly_rounded.Goals as goal

pub returns : goal.returns
returns c = meaning
