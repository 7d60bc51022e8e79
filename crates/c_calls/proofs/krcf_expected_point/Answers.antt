use Rattle.c_calls.specs.Buffers.{expected_point}
use Rattle.c_calls.proofs.Steps.{passed_on}
use Rattle.c_calls.proofs.krcf_expected_point.Goals as goal

pub returns : goal.returns
unfolding expected_point
returns c = passed_on _ _ _ _ _ _ c.expected_point.ensures.answer c.answered.ensures c.expected_point.ensures.buffer
