use Rattle.csv_fields.proofs.Sizes.{score_nearest}
use Rattle.csv_fields.proofs.nearest_scores.Goals as goal

pub returns : goal.returns
returns c = score_nearest
