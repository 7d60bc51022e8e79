use Rattle.training_lines.specs.Feeding.{is_over}
use Rattle.training_lines.proofs.is_over.Goals as goal

pub returns-in-Seed : goal.returns-in-Seed
unfolding is_over
returns-in-Seed c = simp c.in-Seed.is

pub returns-in-Count : goal.returns-in-Count
unfolding is_over
returns-in-Count c = simp c.in-Count.is

pub returns-in-Both : goal.returns-in-Both
unfolding is_over
returns-in-Both c = simp c.in-Both.is

pub returns-in-Bad : goal.returns-in-Bad
unfolding is_over
returns-in-Bad c = simp c.in-Bad.is
