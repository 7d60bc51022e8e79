use Rattle.score_rows.proofs.Sheet.{add_up}
use Rattle.score_rows.proofs.counts_add_up.Goals as goal

pub returns : goal.returns
returns c = add_up
