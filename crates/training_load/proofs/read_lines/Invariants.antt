use Rattle.std.proofs.Common.{◌+◌, ◌≤◌}
use Rattle.training_lines.proofs.Taken.{bytes_left}
use Rattle.training_load.proofs.read_lines.Given as goal

abbrev pub invariant-loop-taken : goal.invariant-loop-taken
invariant-loop-taken g l = bytes_left l.run + l.taken ≤ 23
