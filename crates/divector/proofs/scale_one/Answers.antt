use Rattle.std.proofs.Common.{arith}
use Rattle.std.proofs.lemmas.List.{get_or_default}
use Rattle.std.proofs.lemmas.List.Edits.{map_over_more}
use Rattle.divector.specs.DiVector.{scaled}
use Rattle.divector.proofs.scale_one.Goals as goal

pub loop-x-preserved : goal.loop-x-preserved
unfolding scaled
loop-x-preserved c = map_over_more _ _ _ _ _ (omega arith) c.loop-x.invariant (get_or_default c.loop-x.xs _ _ _ (omega arith))
