use Rattle.csv_rows.proofs.Whole.{whole}
use Rattle.csv_rows.proofs.whole_input.Goals as goal

pub returns : goal.returns
returns c = whole
