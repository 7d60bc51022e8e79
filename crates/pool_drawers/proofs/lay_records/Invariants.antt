use Rattle.pool_drawers.specs.Drawers.{laid_records}
use mathlib.Core.Path.{◌≡◌}
use Rattle.pool_drawers.proofs.lay_records.Given as goal

abbrev pub invariant-loop-k : goal.invariant-loop-k
invariant-loop-k l = l.pool ≡ laid_records l.k l.initial.pool
