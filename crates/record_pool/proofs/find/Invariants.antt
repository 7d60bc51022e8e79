use Rattle.record_pool.proofs.Searching.{Left, ahead}
use Rattle.record_pool.proofs.find.Given as goal

abbrev pub invariant-loop-at : goal.invariant-loop-at
invariant-loop-at l = Left l.pool l.drawer l.at l.front

abbrev pub decreases-loop-at : goal.decreases-loop-at
decreases-loop-at l = ahead l.pool l.at
