use Rattle.pool_drawers.proofs.Calls.{lay_done, lay_refused}
use Rattle.pool_drawers.proofs.krcf_pool_lay_out.Goals as goal

pub returns-then-pool-eq-POOL_LENGTH : goal.returns-then-pool-eq-POOL_LENGTH
returns-then-pool-eq-POOL_LENGTH c = lay_done c.args.pool.now _ _ _ c.if-pool-eq-POOL_LENGTH.true c.clear.ensures c.put_header.ensures c.lay_records.ensures

pub returns : goal.returns
returns c = lay_refused _ c.if-pool-eq-POOL_LENGTH.false
