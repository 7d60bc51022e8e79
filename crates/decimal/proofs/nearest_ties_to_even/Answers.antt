use Rattle.decimal.proofs.Meaning.{nearest_decimal}
use Rattle.decimal.proofs.nearest_ties_to_even.Goals as goal

pub returns : goal.returns
returns c = nearest_decimal
