use mathlib.Core.Path.{refl}
use Rattle.watched_rows.specs.Deciding.{is_watched}
use Rattle.watched_rows.proofs.is_watched.Goals as goal

pub returns : goal.returns
unfolding is_watched
returns c = refl
