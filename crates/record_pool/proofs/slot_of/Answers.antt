use Rattle.record_pool.proofs.Locating.{slot_is}
use Rattle.record_pool.proofs.slot_of.Goals as goal

pub returns : goal.returns
returns c = slot_is _ _ _ _ _ _ _ _ c.place-at.ensures.0 c.u32_at.ensures c.u32_at-2.ensures c.u32_at-3.ensures c.u32_at-4.ensures
