use Rattle.std.proofs.Common.{sym, ◌∙◌}
use lib.Ieee.{binary64}
use Rattle.ieee.proofs.Nans.{quotient, nan_pattern, other_pattern}
use Rattle.ieee.proofs.f64_from_bits.Goals as goal

-- `ieee::f64_from_bits` meets its contract: the test finds the NaN patterns. Assumes nothing.

pub returns-then-n-gt9218868437227405312 : goal.returns-then-n-gt9218868437227405312
returns-then-n-gt9218868437227405312 c = quotient binary64 ∙ sym (nan_pattern binary64 c.args.n c.if-n-gt9218868437227405312.true)

pub float_from_bits-result : goal.float_from_bits-result
float_from_bits-result c = other_pattern binary64 c.args.n c.if-n-gt9218868437227405312.false
