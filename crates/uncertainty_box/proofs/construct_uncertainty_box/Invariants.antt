use Rattle.std.proofs.Common.{◌≡◌, length, take}
use Rattle.uncertainty_box.specs.Scan.{listed}
use Rattle.uncertainty_box.specs.Box.{edge_at}
use Rattle.uncertainty_box.proofs.construct_uncertainty_box.Given as goal

abbrev pub invariant-loop-y : goal.invariant-loop-y
invariant-loop-y l = take l.y l.out ≡ listed l.y (edge_at (length l.initial.out) l.point l.start_position l.scale l.shift l.difference_deviations l.differenced)
