use Rattle.record_pool.proofs.Walking.{decided, other_size, agreed, disagreed}
use Rattle.record_pool.proofs.rules_ok.Goals as goal

pub returns-then-pool-ne-POOL_LENGTH : goal.returns-then-pool-ne-POOL_LENGTH
returns-then-pool-ne-POOL_LENGTH c = other_size _ c.if-pool-ne-POOL_LENGTH.true

pub returns-then-counts_agree : goal.returns-then-counts_agree
returns-then-counts_agree c = decided _ _ _ _ _ _ _ c.if-pool-ne-POOL_LENGTH.false c.walks-w.ensures c.if-w.true c.index_at.ensures (agreed _ _ _ _ c.counts_agree.ensures c.if-counts_agree.true).0 (agreed _ _ _ _ c.counts_agree.ensures c.if-counts_agree.true).1 c.is_distinct.ensures

pub returns-else-counts_agree : goal.returns-else-counts_agree
returns-else-counts_agree c = disagreed _ _ _ _ _ _ _ c.walks-w.ensures c.if-w.true c.index_at.ensures c.counts_agree.ensures c.if-counts_agree.false
