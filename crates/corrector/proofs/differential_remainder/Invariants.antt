use Rattle.std.proofs.Common.{◌≡◌, ◌-◌}
use Rattle.corrector.specs.Corrector.{differential_remainder}
use Rattle.corrector.proofs.differential_remainder.Given as goal

abbrev pub invariant-loop-at : goal.invariant-loop-at
invariant-loop-at l = l.sum ≡ differential_remainder l.high l.low l.ideal_high l.ideal_low l.start (l.at - l.start)
