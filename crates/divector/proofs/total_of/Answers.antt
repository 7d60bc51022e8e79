use Rattle.std.proofs.Common.{◌∙◌, arith}
use lib.Ieee.{nan}
use Rattle.divector.specs.DiVector.{total_of}
use Rattle.divector.proofs.Loops.{sum_step, sum_end}
use Rattle.divector.proofs.total_of.Goals as goal

pub loop-i-preserved : goal.loop-i-preserved
loop-i-preserved c =
    let l = c.loop-i in
    let h = c.requires in
    let t = c.loop-i-test.true in
    (l.invariant.0 ∙ sum_step _ _ _ nan t, l.invariant.1 ∙ sum_step l.b c.args.low.now l.i nan (omega arith))

pub returns : goal.returns
unfolding total_of
returns c =
    let l = c.loop-i in
    let h = c.requires in
    let t = c.loop-i-test.false in
    simp (l.invariant.0 ∙ sum_end _ _ _ t, l.invariant.1 ∙ sum_end l.b c.args.low.now l.i (omega arith))
