use Rattle.std.proofs.Common.{length, arith}
use Rattle.uncertainty_box.specs.Box.{edge_at}
use Rattle.uncertainty_box.proofs.Scans.{listed_next}
use Rattle.uncertainty_box.proofs.Laws.{edge_is}
use Rattle.uncertainty_box.proofs.construct_uncertainty_box.Goals as goal

pub loop-y-preserved : goal.loop-y-preserved
loop-y-preserved c =
    let a = c.args in
    let l = c.loop-y in
    let value = edge_is a.point.now a.start_position a.scale.now a.shift.now a.difference_deviations.now a.differenced (length a.out.now) l.y _ _ c.calculate_path_deviation-path_gap.ensures c.edge.ensures in
    listed_next (edge_at (length a.out.now) a.point.now a.start_position a.scale.now a.shift.now a.difference_deviations.now a.differenced) l.out l.y _ l.invariant (omega arith) value
