use Rattle.std.proofs.Common.{◌≡◌, ◌-◌, ◌<◌, ◌≤◌, length}
use Rattle.uncertainty_box.specs.Box.{path_loop, path_deviation}
use Rattle.uncertainty_box.proofs.calculate_path_deviation.Given as goal

abbrev pub invariant-loop-here : goal.invariant-loop-here
invariant-loop-here l = (l.index ≤ l.here) × (l.here < length l.point) × (l.observation ≤ l.here) × (0 < l.base_dimension) × (length l.point ≤ 65536) × (path_deviation l.point l.start_position l.index l.base_dimension l.differenced ≡ path_loop (length l.point - l.observation) l.point l.index l.base_dimension l.differenced (l.here - l.index) l.variation l.observation)

abbrev pub decreases-loop-here : goal.decreases-loop-here
decreases-loop-here l = length l.point - l.here
