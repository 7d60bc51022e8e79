use Rattle.std.proofs.Common.{◌≡◌}
use Rattle.uncertainty_box.specs.Scan.{count}
use Rattle.uncertainty_box.specs.Box.{neighbour_within}
use Rattle.uncertainty_box.proofs.explained_by_conditional_field.Given as goal

abbrev pub invariant-loop-k : goal.invariant-loop-k
invariant-loop-k l = l.weight ≡ count l.k (neighbour_within l.uncertainty_box l.point l.start_position l.scale l.neighbours l.dimension)
