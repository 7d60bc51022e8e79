-- The statement. Assumes nothing.
use mathlib.Core.Path.{◌≡◌, refl, sym, subst}
use mathlib.Core.Bool.{false}
use native.Mathlib.Omega.{arith}
use lib.Dec.{T}
use lib.Ieee.{Float, binary32, round, le, of_bits}
use lib.Ieee.Order.{round_mono}
use Rattle.grading.specs.Const.{zero32}
use Rattle.grade_order.specs.Sixteenths.{sixteenths_of, Sixteenths}
use Rattle.grade_order.specs.Statement.{StepsRise}
use Rattle.grade_order.proofs.Comparing.{before, none_between}
use Rattle.grade_order.proofs.Sixteenths.{whole, earns}
use Rattle.grade_order.proofs.Surprises.{surprise_not_below}
use Rattle.grade_order.proofs.Ready.{ready}
use Rattle.grade_order.proofs.Early.{early}
use Rattle.grade_order.proofs.Distance.{distance_least, distance}

zero_is : zero32 ≡ round binary32 false 0 16
unfolding round of_bits
zero_is = refl

least : (g : Float) → Sixteenths g → T (le zero32 g)
least g w =
    subst (λ (x : Float). T (le x g)) (sym zero_is)
    (subst (λ (x : Float). T (le (round binary32 false 0 16) x)) (sym w.is) (round_mono binary32 0 16 (sixteenths_of g) 16 (omega arith) (omega arith) (omega arith)))

pub steps_rise : StepsRise
steps_rise = record {
  surprise = surprise_not_below;
  earns = earns;
  nothing = whole zero32 0 (omega arith) zero_is;
  least = least;
  before = before;
  none_between = none_between;
  ready = ready;
  early = early;
  distance_least = distance_least;
  distance = distance;
}
