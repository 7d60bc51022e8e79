-- No surprise is below 0. Assumes nothing.
use mathlib.Core.Path.{◌≡◌, refl, sym, subst}
use mathlib.Core.Bool.{Bool, true, false, not, cond}
use lib.Dec.{T}
use lib.Ieee.{Float, lt, of_bits}
use Rattle.util.specs.Util.{maxf32, minf32}
use Rattle.grading.specs.Const.{zero32, one32}
use Rattle.grading.specs.Grading.{surprise_index}

zero_not_below : T (not (lt zero32 zero32))
unfolding lt of_bits
zero_not_below = tt

one_not_below : T (not (lt one32 zero32))
unfolding lt of_bits
one_not_below = tt

max_not_below : (v : Float) → T (not (lt (maxf32 v zero32) zero32))
unfolding maxf32
max_not_below v = go (lt v zero32) refl
  where
    go : (b : Bool) → lt v zero32 ≡ b → T (not (lt (cond b zero32 v) zero32))
    go true e = zero_not_below
    go false e = subst (λ (c : Bool). T (not c)) (sym e) tt

min_not_below : (w : Float) → T (not (lt w zero32)) → T (not (lt (minf32 one32 w) zero32))
unfolding minf32
min_not_below w h = go (lt one32 w)
  where
    go : (b : Bool) → T (not (lt (cond b one32 w) zero32))
    go true = one_not_below
    go false = h

pub surprise_not_below : (ready : Bool) (x t k d a : Float) → T (not (lt (surprise_index ready x t k d a) zero32))
unfolding surprise_index
surprise_not_below true x t k d a = max_not_below _
surprise_not_below false x t k d a = min_not_below _ (max_not_below _)
