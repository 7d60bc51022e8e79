-- What it tests, reads and writes is no NaN. Assumes nothing.
use Rattle.std.proofs.Common.{T, sym, ap, ◌∙◌, rules}
use lib.Ieee.{binary32, binary64, fits}
use lib.Ieee.Bits.{of_bits-to_bits}
use Rattle.ieee.specs.Round as Round
use Rattle.ieee.proofs.Nans.{equals_itself, is_nan_lem, quotient, pattern_no_nan, bits_no_nan}
use Rattle.ieee.proofs.Narrowing.{narrow_no_nan, narrow_nan}
use Rattle.ieee.proofs.narrow.Goals as goal

pub float_to_bits-x : goal.float_to_bits-x
float_to_bits-x c = equals_itself c.args.x c.if-x.false

pub narrow_pattern-requires : goal.narrow_pattern-requires
narrow_pattern-requires c =
    let held : T (fits binary64 c.args.x) = search rules in
    bits_no_nan binary64 c.args.x held (equals_itself c.args.x c.if-x.false)

pub float_from_bits-result : goal.float_from_bits-result
float_from_bits-result c =
    let held : T (fits binary64 c.args.x) = search rules in
    pattern_no_nan binary32 c.narrow_pattern.result (Round.narrow c.args.x) (c.narrow_pattern.ensures ∙ ap Round.narrow (of_bits-to_bits binary64 c.args.x held)) (narrow_no_nan c.args.x (equals_itself c.args.x c.if-x.false))

pub returns-then-x : goal.returns-then-x
returns-then-x c = quotient binary32 ∙ sym (narrow_nan c.args.x (is_nan_lem c.args.x c.if-x.true))

pub returns-else-x : goal.returns-else-x
returns-else-x c =
    let held : T (fits binary64 c.args.x) = search rules in
    c.narrow_pattern.ensures ∙ ap Round.narrow (of_bits-to_bits binary64 c.args.x held)
