use Rattle.record_pool.specs.Pool.{with_next}
use mathlib.Core.Path.{◌∙◌}
use Rattle.pool_drawers.proofs.put_next.Goals as goal

pub returns : goal.returns
unfolding with_next
returns c = c.put_u32.ensures ∙ simp c.place.ensures.0
