use Rattle.std.proofs.Common.{rules}
use lib.Ieee.{nan}
use Rattle.corrector.proofs.Laws.{copy_more}
use Rattle.corrector.proofs.copy.Goals as goal

pub loop-k-preserved : goal.loop-k-preserved
loop-k-preserved c =
    let a = c.args in
    let l = c.loop-k in
    rw (l.invariant) (copy_more a.out.now a.source.now l.k nan (search rules) (search rules))
