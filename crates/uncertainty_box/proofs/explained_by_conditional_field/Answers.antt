use Rattle.std.proofs.Common.{◌*◌, refl}
use Rattle.uncertainty_box.specs.Box.{neighbour_within}
use Rattle.uncertainty_box.proofs.Scans.{count_next}
use Rattle.uncertainty_box.proofs.Rows.{neighbour_is}
use Rattle.uncertainty_box.proofs.explained_by_conditional_field.Goals as goal

pub loop-k-preserved : goal.loop-k-preserved
loop-k-preserved c =
    let a = c.args in
    let l = c.loop-k in
    let f = neighbour_within a.uncertainty_box.now a.point.now a.start_position a.scale.now a.neighbours.now a.dimension in
    let test = neighbour_is a.uncertainty_box.now a.point.now a.start_position a.scale.now a.neighbours.now a.dimension (l.k * a.dimension) l.k _ refl c.within_unertainty_box-held.ensures.0 in
    count_next f l.k l.weight _ _ l.invariant test c.bump-weight.ensures
