use Rattle.score_kinds.specs.Watching.{settings, three32}
use Rattle.score_kinds.proofs.settings.Goals as goal

pub returns : goal.returns
unfolding settings three32
returns c = simp (c.set_z_factor.ensures, c.default.ensures)
