use Rattle.std.proofs.Common.{◌≡◌, ◌*◌, length}
use Rattle.score_rows.specs.Steps.{Put}
use Rattle.training_lines.specs.Output.{load}
use Rattle.training_lines.proofs.Load.{after}
use Rattle.training_lines.proofs.put_load.Given as goal

abbrev pub invariant-loop-i : goal.invariant-loop-i
invariant-loop-i l =
    (length l.out ≡ length l.initial.out) × (l.at ≡ 9 * l.i) × (l.state ≡ after l.seed l.i) × Put l.initial.out 0 (load l.seed l.i) l.at l.out
