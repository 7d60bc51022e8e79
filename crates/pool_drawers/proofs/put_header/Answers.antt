use Rattle.record_pool.proofs.Putting.{header_put}
use Rattle.pool_drawers.proofs.put_header.Goals as goal

pub returns : goal.returns
returns c = header_put c.args.pool.now _ _ _ _ _ _ c.requires c.put_u32.ensures c.put_u32-2.ensures c.put_u32-3.ensures
