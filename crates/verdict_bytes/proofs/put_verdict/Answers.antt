use mir.Syntax.{w32}
use mir.ValLaws.{to_z-of_z}
use Rattle.verdict_bytes.proofs.Steps.{put_done, put_refused, put_short}
use Rattle.verdict_bytes.proofs.put_verdict.Goals as goal

pub returns-in-Ok : goal.returns-in-Ok
returns-in-Ok c = put_done c.args.r c.args.l c.args.verdict c.args.relative_index c.args.point.now c.args.newest_expected c.args.state.now c.args.out.now c.if-r-out.true c.put_state-answer.result _ (c.put_state-answer.ensures.answer, c.put_state-answer.ensures.stored) c.in-Ok.is _ _ (to_z-of_z w32 c.args.relative_index c.ranges.relative_index) c.put_told.ensures

pub returns-in-Err : goal.returns-in-Err
returns-in-Err c = put_refused c.args.r c.args.l c.args.verdict c.args.relative_index c.args.point.now c.args.newest_expected c.args.state.now c.args.out.now c.if-r-out.true c.put_state-answer.result _ (c.put_state-answer.ensures.answer, c.put_state-answer.ensures.stored) _ _ c.in-Err.is c.number.ensures

pub returns : goal.returns
returns c = put_short c.args.r c.args.l c.args.verdict c.args.relative_index c.args.point.now c.args.newest_expected c.args.state.now c.args.out.now c.if-r-out.false _ _ c.reading_answer.ensures c.answered.ensures
