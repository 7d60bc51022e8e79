use mathlib.Core.Path.{◌≡◌}
use lib.ListN.{length}
use Rattle.record_pool.proofs.Apart.{SoFar}
use Rattle.record_pool.proofs.is_distinct.Given as goal

abbrev pub invariant-loop-k : goal.invariant-loop-k
invariant-loop-k l = (length l.taken ≡ 64) × SoFar l.taken l.numbers l.k
