use Rattle.std.proofs.Common.{◌≡◌, false}
use Rattle.uncertainty_box.specs.Scan.{some}
use Rattle.uncertainty_box.specs.Box.{outside_at}
use Rattle.uncertainty_box.proofs.within_unertainty_box.Given as goal

abbrev pub invariant-loop-y : goal.invariant-loop-y
invariant-loop-y l = some l.y (outside_at l.uncertainty_box l.start_position l.scale l.point l.other_point) ≡ false
