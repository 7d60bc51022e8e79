use Rattle.record_pool.proofs.Putting.{record_put}
use Rattle.pool_drawers.proofs.put_record.Goals as goal

pub returns : goal.returns
returns c = record_put c.args.pool.now _ _ _ _ _ _ _ c.requires.long c.requires.least c.requires.most c.place-at.ensures.0 c.put_u32.ensures c.put_u32-2.ensures c.clear.ensures
