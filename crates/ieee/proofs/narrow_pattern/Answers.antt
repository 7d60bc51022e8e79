-- `proofs/Narrowing.antt` has the normal range and what the code's comparisons say of it. Assumes nothing.
use Rattle.std.proofs.Common.{◌-◌, ◌^◌, arith}
use lib.Bits.{bit_and}
use Rattle.ieee.proofs.Narrowing.{mask_is, twice_ge, twice_lt, code_lt, code_normal, code_signed}
use Rattle.ieee.proofs.narrow_pattern.Goals as goal

pub overflow_cast-result : goal.overflow_cast-result
overflow_cast-result c =
    let b = c.args.b in
    let small = code_lt (bit_and b (2 ^ 63 - 1)) c.half_even.result c.half_even.ensures (twice_ge b c.if-twice-ge1881145344.true) (twice_lt b c.if-twice-lt2413821952.true) in
    record { fits = omega (arith, small) }

pub overflow_add-result : goal.overflow_add-result
overflow_add-result c =
    let b = c.args.b in
    let small = code_lt (bit_and b (2 ^ 63 - 1)) c.half_even.result c.half_even.ensures (twice_ge b c.if-twice-ge1881145344.true) (twice_lt b c.if-twice-lt2413821952.true) in
    record { fits = omega (arith, small, c.ranges.b.fits) }

pub returns-then-twice-lt2413821952 : goal.returns-then-twice-lt2413821952
returns-then-twice-lt2413821952 c =
    let b = c.args.b in
    code_signed b c.half_even.result c.ranges.b.fits (code_normal (bit_and b (2 ^ 63 - 1)) c.half_even.result c.half_even.ensures (twice_ge b c.if-twice-ge1881145344.true) (twice_lt b c.if-twice-lt2413821952.true) (mask_is b c.requires))

pub narrow_magnitude-requires-clause-a_bound : goal.narrow_magnitude-requires-clause-a_bound
narrow_magnitude-requires-clause-a_bound c = mask_is c.args.b c.requires

pub returns : goal.returns
returns c = code_signed c.args.b c.narrow_magnitude.result c.ranges.b.fits c.narrow_magnitude.ensures.narrowed
