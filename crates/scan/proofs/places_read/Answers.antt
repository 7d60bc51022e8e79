use mathlib.Core.Path.{sym}
use Rattle.scan.proofs.Laws.{read_at, read_past}
use Rattle.scan.proofs.places_read.Goals as goal

pub returns-then-hit-all : goal.returns-then-hit-all
returns-then-hit-all c = sym (read_at _ _ c.if-hit-all.true)

pub returns : goal.returns
returns c = sym (read_past _ _ c.if-hit-all.false)
