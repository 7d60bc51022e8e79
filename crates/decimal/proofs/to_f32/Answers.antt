-- `decimal::to_f32` meets its contract. Assumes nothing.
use mathlib.Core.Path.{sym, ap, ◌∙◌}
use mathlib.Core.Bool.{false}
use Prim.Native.Nat.{ℕ, ◌^◌, min}
use native.Mathlib.Omega.{arith}
use lib.Ieee.{binary32, round}
use Rattle.ieee.proofs.Nans.{small_no_nan}
use Rattle.decimal.proofs.Rounded.{zero_rounded, ten_pos}
use Rattle.decimal.proofs.to_f32.Goals as goal

pub returns-then-n-eq0 : goal.returns-then-n-eq0
returns-then-n-eq0 c =
    let k = c.args.places in
    sym (ap (λ (n : ℕ). round binary32 false n (10 ^ min k 6)) c.if-n-eq0.true ∙ zero_rounded (10 ^ min k 6) (ten_pos (min k 6)))

pub float_from_bits-result : goal.float_from_bits-result
float_from_bits-result c = small_no_nan binary32 c.pattern.result (omega (arith, c.pattern.ensures.bound))
