use Rattle.pool_drawers.proofs.Calls.{taken_out}
use Rattle.pool_drawers.proofs.take_out.Goals as goal

pub returns : goal.returns
returns c = taken_out c.args.pool.now _ _ _ _ c.requires c.unlink.ensures c.removed_link.ensures c.put_record.ensures
