use Rattle.std.proofs.Common.{◌≡◌, ◌-◌}
use Rattle.divector.specs.DiVector.{pair_sum}
use Rattle.divector.proofs.block_sum.Given as goal

abbrev pub invariant-loop-i : goal.invariant-loop-i
invariant-loop-i l = l.val ≡ pair_sum l.high l.low l.at (l.i - l.at)
