use mathlib.Core.Path.{refl}
use Rattle.pool_drawers.proofs.Calls.{taken_in}
use Rattle.pool_drawers.proofs.take_in.Goals as goal

pub returns : goal.returns
returns c = taken_in c.args.pool.now _ _ _ _ _ _ _ c.requires refl c.opened.ensures c.put_header.ensures c.opened_link.ensures c.put_record.ensures
