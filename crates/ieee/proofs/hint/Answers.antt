use Rattle.std.proofs.Common.{arith}
use lib.Ieee.{binary64}
use Rattle.ieee.proofs.Nans.{small_no_nan}
use Rattle.ieee.proofs.hint.Goals as goal

-- `ieee::hint` meets its contract: no pattern that it makes is a NaN's, and the floats on the way may be what they like. Assumes nothing.

pub float_from_bits-m : goal.float_from_bits-m
float_from_bits-m c = small_no_nan binary64 _ (omega arith)

pub float_from_bits-first : goal.float_from_bits-first
float_from_bits-first c = small_no_nan binary64 _ (omega arith)
