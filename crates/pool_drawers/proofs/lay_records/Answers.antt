use Rattle.pool_drawers.specs.Drawers.{laid_records}
use Rattle.pool_drawers.proofs.Calls.{laid_more}
use mathlib.Core.Path.{refl}
use Rattle.pool_drawers.proofs.lay_records.Goals as goal

pub loop-k-init : goal.loop-k-init
unfolding laid_records
loop-k-init c = refl

pub loop-k-preserved : goal.loop-k-preserved
loop-k-preserved c = laid_more _ _ _ _ _ c.loop-k.invariant c.after.ensures c.put_next.ensures
