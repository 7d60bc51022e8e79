use mir.Syntax.{w32}
use mir.ValLaws.{to_z-of_z}
use Rattle.c_calls.proofs.Steps.{corrected, bad_bytes}
use Rattle.c_calls.proofs.krcf_apply_basic_corrector.Goals as goal

pub returns-then-has_anomaly-use_difference : goal.returns-then-has_anomaly-use_difference
returns-then-has_anomaly-use_difference c = corrected c.args.point.now c.args.gap c.args.shingle_size c.args.base_dimension c.args.has_anomaly c.args.last_expected.now c.args.last_anomalous.now c.args.relative_index c.args.use_difference c.args.time_augmented c.args.out.now c.if-has_anomaly-use_difference.true _ (to_z-of_z w32 c.args.relative_index c.ranges.relative_index) _ _ _ c.apply_basic_corrector-answer.ensures.answer c.answered.ensures c.apply_basic_corrector-answer.ensures.buffer

pub returns : goal.returns
returns c = bad_bytes c.args.point.now c.args.gap c.args.shingle_size c.args.base_dimension c.args.has_anomaly c.args.last_expected.now c.args.last_anomalous.now c.args.relative_index c.args.use_difference c.args.time_augmented c.args.out.now c.if-has_anomaly-use_difference.false
