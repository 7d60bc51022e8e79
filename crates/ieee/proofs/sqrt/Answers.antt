-- By the pattern: NaN, zeros, the infinity, values above zero, and negative ones. Assumes nothing.
use Rattle.std.proofs.Common.{◌≡◌, ℕ, T, sym, ap, ◌∙◌, rules}
use lib.Ieee.{Float, binary64, fits, of_bits, to_bits}
use lib.Ieee.Bits.{of_bits-to_bits, to_bits-lt}
use Rattle.ieee.specs.Round as Round
use Rattle.ieee.proofs.Nans.{equals_itself, is_nan_lem, quotient, bits_no_nan, small_no_nan}
use Rattle.ieee.proofs.Rooting.{sqrt_nan, sqrt_zero, sqrt_minus_zero, sqrt_inf, sqrt_negative}
use Rattle.ieee.proofs.sqrt.Goals as goal

-- a value that is its own root, by its pattern
fixed : (x : Float) → T (fits binary64 x) → (n : ℕ) → to_bits binary64 x ≡ n → of_bits binary64 n ≡ Round.sqrt (of_bits binary64 n) → x ≡ Round.sqrt x
fixed x held n e h = let is : of_bits binary64 n ≡ x = ap (of_bits binary64) (sym e) ∙ of_bits-to_bits binary64 x held in sym is ∙ h ∙ ap Round.sqrt is

pub float_to_bits-b : goal.float_to_bits-b
float_to_bits-b c = equals_itself c.args.x c.if-x.false

pub float_from_bits-result : goal.float_from_bits-result
float_from_bits-result c = small_no_nan binary64 c.sqrt_pattern.result c.sqrt_pattern.ensures.bound

pub returns-then-x : goal.returns-then-x
returns-then-x c = quotient binary64 ∙ sym (sqrt_nan c.args.x (is_nan_lem c.args.x c.if-x.true))

pub returns-then-b-eq0 : goal.returns-then-b-eq0
returns-then-b-eq0 c = fixed c.args.x (search rules) 0 c.if-b-eq0.true sqrt_zero

pub returns-then-b-lt9218868437227405312 : goal.returns-then-b-lt9218868437227405312
returns-then-b-lt9218868437227405312 c = c.sqrt_pattern.ensures.root ∙ ap Round.sqrt (of_bits-to_bits binary64 c.args.x (search rules))

pub returns-then-b-eq9218868437227405312 : goal.returns-then-b-eq9218868437227405312
returns-then-b-eq9218868437227405312 c = fixed c.args.x (search rules) 0x7ff0_0000_0000_0000 c.if-b-eq9218868437227405312.true sqrt_inf

pub returns-then-b : goal.returns-then-b
returns-then-b c = fixed c.args.x (search rules) 0x8000_0000_0000_0000 c.if-b.true sqrt_minus_zero

pub returns-else-b : goal.returns-else-b
returns-else-b c =
    let held : T (fits binary64 c.args.x) = search rules in
    quotient binary64
    ∙ sym (ap Round.sqrt (sym (of_bits-to_bits binary64 c.args.x held))
    ∙ sqrt_negative (to_bits binary64 c.args.x) (to_bits-lt binary64 c.args.x held) (bits_no_nan binary64 c.args.x held (equals_itself c.args.x c.if-x.false)) c.if-b-lt9218868437227405312.false c.if-b-eq9218868437227405312.false c.if-b.false)
