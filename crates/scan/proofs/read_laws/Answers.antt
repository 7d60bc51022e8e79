use Rattle.scan.proofs.Laws.{laws}
use Rattle.scan.proofs.read_laws.Goals as goal

pub returns : goal.returns
returns c = laws
