use Rattle.csv_rows.proofs.Sizes.{sized_scores}
use Rattle.csv_rows.proofs.sized_scores.Goals as goal

pub returns : goal.returns
returns c = sized_scores
