use mathlib.Core.Path.{refl}
use Rattle.pool_drawers.proofs.Calls.{unlink_first, unlink_later}
use Rattle.pool_drawers.proofs.unlink.Goals as goal

pub returns-then-slot-ne0 : goal.returns-then-slot-ne0
returns-then-slot-ne0 c = unlink_later c.args.pool.now _ _ _ _ _ _ c.requires refl refl c.removed.ensures c.if-slot-ne0.true c.put_header.ensures c.put_next.ensures

pub returns-else-slot-ne0 : goal.returns-else-slot-ne0
returns-else-slot-ne0 c = unlink_first c.args.pool.now _ _ _ _ _ c.requires refl refl c.removed.ensures c.if-slot-ne0.false c.put_header.ensures
