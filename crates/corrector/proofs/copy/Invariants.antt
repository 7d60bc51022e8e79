use Rattle.std.proofs.Common.{◌≡◌, ◌++◌, take, drop}
use Rattle.corrector.proofs.copy.Given as goal

abbrev pub invariant-loop-k : goal.invariant-loop-k
invariant-loop-k l = l.out ≡ take l.k l.source ++ drop l.k l.initial.out
