use Rattle.std.proofs.Common.{true, false, sym, ◌∙◌}
use Rattle.divector.proofs.Blocks.{turn, best_end}
use Rattle.divector.proofs.best_from.Goals as goal
use Rattle.divector.proofs.best_from.Goals.{then-sum-val, else-sum-val}

pub loop-j-preserved : goal.loop-j-preserved
loop-j-preserved c =
    let t = turn c.loop-j.invariant c.block_sum-sum.result c.loop-j-test.true c.block_sum-sum.ensures in
    elim c.if-sum-val.branch [
      | then-sum-val w ↦ rw (w.index-is, w.val-is) (t true w.if-sum-val.true)
      | else-sum-val w ↦ rw (w.index-is, w.val-is) (t false w.if-sum-val.false)
    ]

pub returns : goal.returns
returns c = sym (c.loop-j.invariant.left ∙ best_end _ _ _ _ c.loop-j-test.false)
