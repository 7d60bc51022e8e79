use Rattle.std.proofs.Common.{◌+◌, ◌-◌, ◌*◌, ◌/◌, ◌^◌, ◌<◌, ◌≤◌}
use Rattle.ieee.proofs.bisect.Given as goal

abbrev pub invariant-loop-hi : goal.invariant-loop-hi
invariant-loop-hi l = (l.lo < l.hi) × (l.hi < 2 ^ 54) × ((l.lo * l.lo + l.lo) / 2 ^ 52 < l.w) × (l.w ≤ (l.hi * l.hi + l.hi) / 2 ^ 52)

abbrev pub decreases-loop-hi : goal.decreases-loop-hi
decreases-loop-hi l = l.hi - l.lo
