use mir.Syntax.{w32}
use mir.ValLaws.{to_z-of_z}
use Rattle.descriptor.specs.Lent.{lent}
use Rattle.c_judging.proofs.Steps.{judged_accepted, judged_refused, call_refused}
use borrow.Author.Rules.{rules}
use Rattle.c_judging.proofs.krcf_detect_and_modify.Goals as goal

pub returns-in-Ok-outcome : goal.returns-in-Ok-outcome
returns-in-Ok-outcome c =
    let a = c.args in
    let b = lent a.point.now a.scale.now a.shift.now a.difference_deviations.now a.last_expected.now a.last_anomalous.now a.high.now a.low.now a.median.now a.ideal_high.now a.ideal_low.now a.neighbours.now in
    judged_accepted a.state.now a.reading.now a.last.now b a.expected.now a.out_high.now a.out_low.now a.verdict.now
    _ c.read_call.ensures _ _ _ c.in-Ok.is _ _ _ _ c.judge-decision.ensures
    _ _ _ _ _ c.in-Ok-outcome.is (to_z-of_z w32 c.judge-decision.result.relative_index (search rules)) c.put_verdict.ensures

pub returns-in-Err-outcome : goal.returns-in-Err-outcome
returns-in-Err-outcome c =
    let a = c.args in
    let b = lent a.point.now a.scale.now a.shift.now a.difference_deviations.now a.last_expected.now a.last_anomalous.now a.high.now a.low.now a.median.now a.ideal_high.now a.ideal_low.now a.neighbours.now in
    judged_refused a.state.now a.reading.now a.last.now b a.expected.now a.out_high.now a.out_low.now a.verdict.now
    _ c.read_call.ensures _ _ _ c.in-Ok.is _ _ _ _ c.judge-decision.ensures
    _ _ c.in-Err-outcome.is c.number.ensures

pub returns-in-Err : goal.returns-in-Err
returns-in-Err c =
    let a = c.args in
    let b = lent a.point.now a.scale.now a.shift.now a.difference_deviations.now a.last_expected.now a.last_anomalous.now a.high.now a.low.now a.median.now a.ideal_high.now a.ideal_low.now a.neighbours.now in
    call_refused a.state.now a.reading.now a.last.now b a.expected.now a.out_high.now a.out_low.now a.verdict.now _ c.read_call.ensures _ _ c.in-Err.is c.number-in-Err.ensures
