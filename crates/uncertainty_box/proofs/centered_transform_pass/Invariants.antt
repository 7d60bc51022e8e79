use Rattle.std.proofs.Common.{◌≡◌, ◌%◌, ◌<◌, false}
use Rattle.uncertainty_box.specs.Scan.{some}
use Rattle.uncertainty_box.specs.Pass.{over_at}
use Rattle.uncertainty_box.proofs.centered_transform_pass.Given as goal

abbrev pub invariant-loop-i : goal.invariant-loop-i
invariant-loop-i l = (l.y < l.base_dimension) × (l.y ≡ l.i % l.base_dimension) × (some l.i (over_at l.base_dimension l.scale l.shift l.point) ≡ false)
