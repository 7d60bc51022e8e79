use Rattle.std.proofs.Common.{sym, ◌∙◌}
use lib.Ieee.{binary32}
use Rattle.ieee.proofs.Nans.{quotient, nan_pattern, other_pattern}
use Rattle.ieee.proofs.f32_from_bits.Goals as goal

-- `ieee::f32_from_bits` meets its contract: the test finds the NaN patterns. Assumes nothing.

pub returns-then-n-gt2139095040 : goal.returns-then-n-gt2139095040
returns-then-n-gt2139095040 c = quotient binary32 ∙ sym (nan_pattern binary32 c.args.n c.if-n-gt2139095040.true)

pub float_from_bits-result : goal.float_from_bits-result
float_from_bits-result c = other_pattern binary32 c.args.n c.if-n-gt2139095040.false
