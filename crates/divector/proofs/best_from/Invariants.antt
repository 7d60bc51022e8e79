use Rattle.divector.proofs.Blocks.{Searched}
use Rattle.divector.proofs.best_from.Given as goal

abbrev pub invariant-loop-j : goal.invariant-loop-j
invariant-loop-j l = Searched l.high l.low l.base l.start l.blocks l.index l.val l.j
