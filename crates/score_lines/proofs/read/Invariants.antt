use Prim.Native.Nat.{◌≤◌, ◌*◌}
use mathlib.Core.Path.{◌≡◌}
use lib.ListN.{length, take}
use Rattle.score_lines.specs.Feeding.{fed, printed}
use Rattle.score_rows.specs.Steps.{Put}
use Rattle.score_lines.proofs.read.Given as goal

abbrev pub invariant-loop-b : goal.invariant-loop-b
invariant-loop-b l =
    (length l.out ≡ length l.initial.out)
    × (l.state ≡ fed l.initial.state (take l.b-index l.input))
    × (l.to ≤ 84 * l.b-index)
    × Put l.initial.out 0 (printed l.initial.state (take l.b-index l.input)) l.to l.out
