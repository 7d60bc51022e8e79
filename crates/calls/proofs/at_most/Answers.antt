use mathlib.Core.Path.{◌≡◌, sym, ◌∙◌, ap, refl}
use Prim.Native.Nat.{◌-◌}
use native.Mathlib.Omega.{arith}
use lib.Dec.{leb}
use Rattle.calls.specs.Calls.{start_ok}
use Rattle.calls.proofs.Zero.{zero_or_below}
use Rattle.calls.proofs.at_most.Goals as goal

pub returns-then-base-d : goal.returns-then-base-d
unfolding start_ok
returns-then-base-d c = refl

pub returns : goal.returns
unfolding start_ok
returns c = (let e : c.args.d - c.args.base ≡ 0 = omega arith in zero_or_below c.args.position ∙ ap (leb c.args.position) (sym e))
