-- What a statistic says: number-or-0 of it, and the deviation by what the mean says. Assumes nothing.
use Rattle.std.specs.Prelude.{Option, Some, None}
use mathlib.Core.Path.{◌≡◌, refl, sym, ap, ◌∙◌}
use mathlib.Core.Bool.{Bool, true, false, cond, true≢false}
use lib.Ieee.{Float}
use Rattle.ieee.specs.F64.{◌-₆₄◌, ◌*₆₄◌, ◌/₆₄◌}
use Rattle.deviation.specs.Const.{zero64}
use Rattle.deviation.specs.declared.Deviation.{Deviation}
use Rattle.deviation.specs.Statistics.{is_empty, mean, deviation, positive_root, measured_mean, measured_deviation, or_zero, OrZeroAsBefore}

-- ---- by the test that both make.
abbrev is_number : Option Float → Bool
is_number None = false
is_number (Some x) = true

module _ (empty : Bool) (x : Float) where
  -- The answer whose number is x, as the definitions have it.
  abbrev answer : Option Float
  answer = cond empty None (Some (cond empty zero64 x))

or_zero_lem : (empty : Bool) (x : Float) → or_zero (answer empty x) ≡ cond empty zero64 x
unfolding or_zero
or_zero_lem true x = refl
or_zero_lem false x = refl

empty_too : (empty : Bool) (x y : Float) → answer empty x ≡ None → None ≡ answer empty y
empty_too true x y e = refl
empty_too false x y e = absurd (true≢false (ap is_number e))

number_too : (empty : Bool) (x t : Float) (f : Float → Float) → answer empty x ≡ Some t → Some (f t) ≡ answer empty (f x)
unfolding or_zero
number_too true x t f e = absurd (true≢false (sym (ap is_number e)))
number_too false x t f e = ap (λ (t : Float). Some (f t)) (sym (ap or_zero e))

-- ---- of a statistic.
module _ (d : Deviation) where
  pub or_zero_mean : or_zero (measured_mean d) ≡ mean d
  unfolding measured_mean mean
  or_zero_mean = or_zero_lem (is_empty d) _

  pub or_zero_deviation : or_zero (measured_deviation d) ≡ deviation d
  unfolding measured_deviation deviation
  or_zero_deviation = or_zero_lem (is_empty d) _

  pub deviation_empty : (m : Option Float) → m ≡ measured_mean d → m ≡ None → None ≡ measured_deviation d
  unfolding measured_mean mean measured_deviation deviation
  deviation_empty m e h = empty_too (is_empty d) _ _ (sym e ∙ h)

  pub deviation_number : (m : Option Float) (t y : Float) → m ≡ measured_mean d → m ≡ Some t → y ≡ positive_root (d.sum_squared /₆₄ d.weight -₆₄ t *₆₄ t)
      → Some y ≡ measured_deviation d
  unfolding measured_mean mean measured_deviation deviation
  deviation_number m t y e h r =
      ap Some r ∙ number_too (is_empty d) _ t (λ (t : Float). positive_root (d.sum_squared /₆₄ d.weight -₆₄ t *₆₄ t)) (sym e ∙ h)

pub or_zero_as_before : OrZeroAsBefore
or_zero_as_before d = (or_zero_mean d, or_zero_deviation d)
