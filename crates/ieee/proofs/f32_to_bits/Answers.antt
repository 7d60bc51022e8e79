use Rattle.std.proofs.Common.{sym, ap, ◌∙◌}
use lib.Ieee.{binary32, to_bits}
use Rattle.ieee.proofs.Nans.{equals_itself, is_nan_lem, bits_of_nan}
use Rattle.ieee.proofs.f32_to_bits.Goals as goal

-- `ieee::f32_to_bits` meets its contract: the test finds NaN. Assumes nothing.

pub returns-then-x : goal.returns-then-x
returns-then-x c = sym (ap (to_bits binary32) (is_nan_lem c.args.x c.if-x.true) ∙ bits_of_nan binary32)

pub float_to_bits-result : goal.float_to_bits-result
float_to_bits-result c = equals_itself c.args.x c.if-x.false
