use Rattle.std.proofs.Common.{◌≡◌, ◌++◌, take, drop}
use Rattle.divector.specs.DiVector.{scaled}
use Rattle.divector.proofs.scale_one.Given as goal

abbrev pub invariant-loop-x : goal.invariant-loop-x
invariant-loop-x l = l.xs ≡ scaled l.factor (take l.x-index l.initial.xs) ++ drop l.x-index l.initial.xs
