use Rattle.std.proofs.Common.{◌≡◌, drop}
use Rattle.ieee.specs.F64.{zero64}
use Rattle.divector.specs.DiVector.{sum_from}
use Rattle.divector.proofs.total_of.Given as goal

abbrev pub invariant-loop-i : goal.invariant-loop-i
invariant-loop-i l = (sum_from zero64 l.high ≡ sum_from l.a (drop l.i l.high)) × (sum_from zero64 l.low ≡ sum_from l.b (drop l.i l.low))
