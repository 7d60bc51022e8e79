use native.Mathlib.Omega.{arith}
use Rattle.descriptor.specs.Lent.{lent}
use Rattle.pool_judging.proofs.Steps.{judged_room, judged_there}
use Rattle.pool_judging.proofs.krcf_pool_detect_and_modify.Goals as goal

pub overflow_add-upto : goal.overflow_add-upto
overflow_add-upto c = record { fits = omega (arith, (judged_room _ _ _ c.locate.ensures _ c.in-Ok.is).0) }

pub returns-in-Ok : goal.returns-in-Ok
returns-in-Ok c =
    let a = c.args in
    let b = lent a.point.now a.scale.now a.shift.now a.difference_deviations.now a.last_expected.now a.last_anomalous.now a.high.now a.low.now a.median.now a.ideal_high.now a.ideal_low.now a.neighbours.now in
    judged_there a.pool.now a.reading.now a.last.now b _ a.expected.now a.out_high.now a.out_low.now a.verdict.now a.drawer
    _ c.locate.ensures _ c.in-Ok.is _ _ _ _ _ c.krcf_detect_and_modify.auto.state c.krcf_detect_and_modify.ensures

pub slice_bounds-krcf_detect_and_modify-end : goal.slice_bounds-krcf_detect_and_modify-end
slice_bounds-krcf_detect_and_modify-end c =
    let r = judged_room _ _ _ c.locate.ensures _ c.in-Ok.is in
    omega (arith, r.0, r.1)
