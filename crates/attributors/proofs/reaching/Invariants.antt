use mathlib.Core.Path.{◌≡◌}
use Prim.Native.Nat.{◌-◌}
use Rattle.attributors.specs.Attributors.{reaching, missing}
use Rattle.attributors.proofs.reaching.Given as goal

abbrev pub invariant-loop-at : goal.invariant-loop-at
invariant-loop-at l = l.found ≡ missing (reaching l.high l.low l.limit l.position (l.at - l.position))
