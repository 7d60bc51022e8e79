use Rattle.std.proofs.Common.{rules}
use lib.Ieee.{nan}
use Rattle.divector.proofs.Laws.{zipped_length}
use Rattle.divector.proofs.Loops.{begin, zip_next}
use Rattle.divector.proofs.change_each.Goals as goal

pub loop-i-init : goal.loop-i-init
loop-i-init g c = λ h k. begin _ _ (zipped_length h _ _)

pub loop-i-preserved : goal.loop-i-preserved
loop-i-preserved g c = λ h k. rw (k _ _ _ c.f.ensures) (zip_next h _ (c.loop-i.invariant h k) nan (search rules) (search rules))
