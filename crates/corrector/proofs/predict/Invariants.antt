use Rattle.std.proofs.Common.{◌≡◌, take}
use Rattle.corrector.specs.Steps.{predicted_row}
use Rattle.corrector.proofs.predict.Given as goal

abbrev pub invariant-loop-at : goal.invariant-loop-at
invariant-loop-at l = l.out ≡ predicted_row l.start (take l.at-index l.at-items) l.prediction l.initial.out
