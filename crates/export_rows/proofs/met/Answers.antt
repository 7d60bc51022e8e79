use Rattle.export_rows.specs.Taking.{met}
use Rattle.export_rows.proofs.met.Goals as goal

pub returns-in-Nothing : goal.returns-in-Nothing
unfolding met
returns-in-Nothing c = simp c.in-Nothing.is

pub returns-in-Header : goal.returns-in-Header
unfolding met
returns-in-Header c = simp (c.in-Header.is, c.passed.ensures)

pub returns-in-Sound : goal.returns-in-Sound
unfolding met
returns-in-Sound c = simp (c.in-Sound.is, c.sound.ensures)

pub returns-in-Faulty : goal.returns-in-Faulty
unfolding met
returns-in-Faulty c = simp (c.in-Faulty.is, c.ended.ensures)
