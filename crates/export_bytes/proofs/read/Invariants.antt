use Prim.Native.Nat.{◌-◌, ◌*◌, ◌≤◌}
use mathlib.Core.Path.{◌≡◌}
use lib.ListN.{length, take}
use Rattle.score_rows.specs.Steps.{Put}
use Rattle.export_bytes.specs.Feeding.{run_of, fed, printed}
use Rattle.export_bytes.proofs.read.Given as goal

abbrev pub invariant-loop-i : goal.invariant-loop-i
invariant-loop-i l =
    (length l.out ≡ length l.initial.out) × (run_of l.scan l.course ≡ fed (run_of l.initial.scan l.initial.course) (take l.i l.input)) × (l.to ≤ 84 * l.i) × Put l.initial.out 0 (printed (run_of l.initial.scan l.initial.course) (take l.i l.input)) l.to l.out

abbrev pub decreases-loop-i : goal.decreases-loop-i
decreases-loop-i l = length l.input - l.i
