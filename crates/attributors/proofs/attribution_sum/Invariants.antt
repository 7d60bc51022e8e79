use mathlib.Core.Path.{◌≡◌}
use Prim.Native.Nat.{◌-◌}
use Rattle.attributors.specs.Attributors.{attribution_sum}
use Rattle.attributors.proofs.attribution_sum.Given as goal

abbrev pub invariant-loop-at : goal.invariant-loop-at
invariant-loop-at l = l.sum ≡ attribution_sum l.high l.low l.position (l.at - l.position)
