use Rattle.ledger.proofs.Faithful.{faithful}
use Rattle.ledger.proofs.the_statement_is_faithful.Goals as goal

pub returns : goal.returns
returns c = faithful
