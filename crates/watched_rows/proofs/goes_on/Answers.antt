use mathlib.Core.Path.{refl}
use Rattle.watched_rows.specs.Deciding.{goes_on}
use Rattle.watched_rows.proofs.goes_on.Goals as goal

pub returns : goal.returns
unfolding goes_on
returns c = refl
