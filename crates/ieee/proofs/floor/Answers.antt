-- What it tests, reads and writes is no NaN. Assumes nothing.
use Rattle.std.proofs.Common.{T, sym, ap, ◌∙◌, rules}
use lib.Ieee.{binary32, fits}
use lib.Ieee.Bits.{of_bits-to_bits}
use Rattle.ieee.specs.Round as Round
use Rattle.ieee.proofs.Nans.{equals_itself, is_nan_lem, quotient, pattern_no_nan, bits_no_nan}
use Rattle.ieee.proofs.Flooring.{floor_no_nan, floor_nan}
use Rattle.ieee.proofs.floor.Goals as goal

pub float_to_bits-x : goal.float_to_bits-x
float_to_bits-x c = equals_itself c.args.x c.if-x.false

pub floor_pattern-requires : goal.floor_pattern-requires
floor_pattern-requires c =
    let held : T (fits binary32 c.args.x) = search rules in
    bits_no_nan binary32 c.args.x held (equals_itself c.args.x c.if-x.false)

pub float_from_bits-result : goal.float_from_bits-result
float_from_bits-result c =
    let held : T (fits binary32 c.args.x) = search rules in
    pattern_no_nan binary32 c.floor_pattern.result (Round.floor c.args.x) (c.floor_pattern.ensures ∙ ap Round.floor (of_bits-to_bits binary32 c.args.x held)) (floor_no_nan c.args.x (equals_itself c.args.x c.if-x.false))

pub returns-then-x : goal.returns-then-x
returns-then-x c = quotient binary32 ∙ sym (floor_nan c.args.x (is_nan_lem c.args.x c.if-x.true))

pub returns-else-x : goal.returns-else-x
returns-else-x c =
    let held : T (fits binary32 c.args.x) = search rules in
    c.floor_pattern.ensures ∙ ap Round.floor (of_bits-to_bits binary32 c.args.x held)
