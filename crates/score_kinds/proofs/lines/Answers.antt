use mathlib.Core.Path.{refl}
use Rattle.score_kinds.specs.Counting.{lines}
use Rattle.score_kinds.proofs.lines.Goals as goal

pub returns-clause-count : goal.returns-clause-count
unfolding lines
returns-clause-count c = refl
