use Rattle.std.proofs.Common.{◌≡◌}
use Rattle.corrector.specs.Corrector.{amended_row}
use Rattle.corrector.proofs.amend_row.Given as goal

abbrev pub invariant-loop-y : goal.invariant-loop-y
invariant-loop-y l = l.corrected ≡ amended_row l.initial.corrected l.at l.anomalous l.expected l.from l.y
